-- What every specification keeps: its numbers name what they are used as, its names may be written,
-- its conjunctions and disjunctions have members, and its terms can be written as program text.
use Rattle.std.specs.Prelude.{ℕ, ◌+◌, Bool, true, false, ◌&&◌, ◌||◌, ◌==◌, nat_le, max, List, slice_get, IsTrue}
use Rattle.std.specs.List.{list_all}
use Rattle.std.specs.Option.{option_map_or}
use Rattle.std.specs.Str.{bytes_eq}
use Rattle.tsl_text.specs.Names.{is_usable}
use Rattle.tsl_terms.specs.declared.names.NameKind.TheVariants.{Signal, Function, Predicate}
use Rattle.tsl_terms.specs.declared.term.TheConstants.{DEEPEST_BRACKETS}
use Rattle.tsl_terms.specs.Name.{Name, AreDistinct, same_kind, is_name, question}
use Rattle.tsl_terms.specs.TermTree.{TermTree, signal, apply, TermTrees, no_terms, more_terms, ProbeTree, count_of_terms}
use Rattle.tsl_terms.specs.FormulaTree.{Atom, test, update, FormulaTree, FormulaTrees, formulas_in}
use Rattle.tsl_terms.specs.Atoms.{is_made_of}
use Rattle.tsl_terms.specs.SpecTree.{SpecTree, all_formulas}

-- whether the text at a number may be a name of a specification
abbrev pub is_usable_at : List Name → ℕ → Bool
is_usable_at names id = option_map_or (λ n. is_usable n.text) (slice_get names id) false

abbrev pub is_question : List Name → ℕ → Bool
is_question names id = option_map_or (λ n. bytes_eq n.text question) (slice_get names id) false

-- each number of a term names a usable signal, or a usable function that takes so many arguments
abbrev mutual
  pub term_fits : List Name → TermTree → Bool
  term_fits names (signal s) = is_name names s Signal 0 && is_usable_at names s
  term_fits names (apply f arguments) =
      (is_name names f Function (count_of_terms arguments) && is_usable_at names f) && terms_fit names arguments

  pub terms_fit : List Name → TermTrees → Bool
  terms_fit names no_terms = true
  terms_fit names (more_terms t ts) = term_fits names t && terms_fit names ts

-- the one argument of a test of a Boolean signal is a signal
abbrev pub are_one_signal : TermTrees → Bool
are_one_signal (more_terms (signal s) no_terms) = true
are_one_signal _ = false

-- the predicate is a usable one that takes so many arguments, or tests a Boolean signal
abbrev pub probe_fits : List Name → ProbeTree → Bool
probe_fits names p =
    (is_name names p.predicate Predicate (count_of_terms p.arguments) && terms_fit names p.arguments)
    && (is_usable_at names p.predicate || (is_question names p.predicate && are_one_signal p.arguments))

-- how deep the brackets nest where a term is written: an argument that has arguments stands in brackets
abbrev pub bracketed : TermTree → ℕ → ℕ
bracketed (apply f (more_terms t ts)) depth = 1 + depth
bracketed _ depth = depth

abbrev mutual
  pub brackets : TermTree → ℕ
  brackets (signal s) = 0
  brackets (apply f arguments) = brackets_of_arguments arguments

  pub brackets_of_arguments : TermTrees → ℕ
  brackets_of_arguments no_terms = 0
  brackets_of_arguments (more_terms t ts) = max (bracketed t (brackets t)) (brackets_of_arguments ts)

-- the deepest brackets that a term may have
abbrev pub deepest : ℕ
deepest = DEEPEST_BRACKETS

-- the terms of an atom fit the names, and nest in brackets at most so deep
abbrev pub atom_fits : List Name → Atom → Bool
atom_fits names (test p) = probe_fits names p && nat_le (brackets_of_arguments p.arguments) deepest
atom_fits names (update s t) =
    (is_name names s Signal 0 && is_usable_at names s) && (term_fits names t && nat_le (brackets t) deepest)

-- each atom fits, and each conjunction and disjunction has two members or more
abbrev pub formula_fits : List Name → FormulaTree → Bool
formula_fits names = is_made_of (atom_fits names)

abbrev pub formulas_fit : List Name → FormulaTrees → Bool
formulas_fit names fs = list_all (formula_fits names) (formulas_in fs)

-- a name that may be written: a usable one, or the test of a Boolean signal
abbrev pub name_fits : Name → Bool
name_fits n = is_usable n.text || ((bytes_eq n.text question && same_kind n.kind Predicate) && (n.arity == 1))

-- what every specification that is read keeps: no text stands twice among its names, each of them may be written,
-- and each formula fits them
pub record SpecFits (spec : SpecTree) : Type 0 where
  pub distinct : AreDistinct spec.names
  pub names : IsTrue (list_all name_fits spec.names)
  pub formulas : IsTrue (list_all (formula_fits spec.names) (all_formulas spec))
