-- Terms and probes as pure trees, without where they lie in memory. Every definition speaks of these.
-- Source: Finkbeiner, Klein, Piskac, Santolucito: Temporal Stream Logic: Synthesis Beyond the Bools
-- (CAV 2019), the syntax of terms.
use Rattle.std.specs.Prelude.{ℕ, ◌+◌, List, [], ◌∷◌}
use Rattle.tsl_terms.specs.declared.term.Term.{Term}
use Rattle.tsl_terms.specs.declared.term.Term.TheVariants.{Signal, Apply}
use Rattle.tsl_terms.specs.declared.term.TermList.{TermList}
use Rattle.tsl_terms.specs.declared.term.TermList.TheVariants.{Empty, More'}
use Rattle.tsl_terms.specs.declared.term.Probe.{Probe}

-- a term: a signal, or a function applied to a list of terms
mutual
  pub data TermTree : Type 0 where
    signal : ℕ → TermTree
    apply : ℕ → TermTrees → TermTree

  pub data TermTrees : Type 0 where
    no_terms : TermTrees
    more_terms : TermTree → TermTrees → TermTrees

-- a predicate applied to a list of terms
pub record ProbeTree : Type 0 where
  pub predicate : ℕ
  pub arguments : TermTrees

-- the members of a list of terms, in order
abbrev pub terms_in : TermTrees → List TermTree
terms_in no_terms = []
terms_in (more_terms t ts) = t ∷ terms_in ts

-- the list of these members
abbrev pub terms_of : List TermTree → TermTrees
terms_of [] = no_terms
terms_of (t ∷ ts) = more_terms t (terms_of ts)

-- how many terms a list has
abbrev pub count_of_terms : TermTrees → ℕ
count_of_terms no_terms = 0
count_of_terms (more_terms t ts) = 1 + count_of_terms ts

-- the tree of a term
abbrev mutual
  pub term_tree : Term → TermTree
  term_tree (Signal s) = signal s
  term_tree (Apply f arguments) = apply f (term_trees arguments)

  pub term_trees : TermList → TermTrees
  term_trees Empty = no_terms
  term_trees (More' p head q rest) = more_terms (term_tree head) (term_trees rest)

-- the tree of a probe
abbrev pub probe_tree : Probe → ProbeTree
probe_tree p = record { predicate = p.predicate; arguments = term_trees p.arguments }
