-- Terms and formulas that read or update only the signals of a list.
use Rattle.std.specs.Prelude.{ℕ, Bool, true, ◌&&◌, List}
use Rattle.std.specs.List.{list_all}
use Rattle.base_library.specs.Numbers.{is_among}
use Rattle.tsl_terms.specs.TermTree.{TermTree, signal, apply, TermTrees, no_terms, more_terms}
use Rattle.tsl_terms.specs.FormulaTree.{Atom, test, update, FormulaTree}
use Rattle.tsl_terms.specs.Atoms.{atoms}

-- a term reads these signals only
abbrev mutual
  pub reads_only : List ℕ → TermTree → Bool
  reads_only ids (signal s) = is_among ids s
  reads_only ids (apply f arguments) = read_only ids arguments

  pub read_only : List ℕ → TermTrees → Bool
  read_only ids no_terms = true
  read_only ids (more_terms t ts) = reads_only ids t && read_only ids ts

-- an atom reads these signals only
abbrev pub atom_reads_only : List ℕ → Atom → Bool
atom_reads_only ids (test p) = read_only ids p.arguments
atom_reads_only ids (update s t) = reads_only ids t

-- a formula reads these signals only
abbrev pub formula_reads_only : List ℕ → FormulaTree → Bool
formula_reads_only ids f = list_all (atom_reads_only ids) (atoms f)

-- an atom updates one of these signals at most
abbrev pub atom_updates_only : List ℕ → Atom → Bool
atom_updates_only ids (test p) = true
atom_updates_only ids (update s t) = is_among ids s

-- a formula updates these signals only
abbrev pub formula_updates_only : List ℕ → FormulaTree → Bool
formula_updates_only ids f = list_all (atom_updates_only ids) (atoms f)
