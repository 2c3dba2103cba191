-- Inputs, cells, outputs, and the terms that a signal may take.
-- Source: Finkbeiner, Klein, Piskac, Santolucito: Temporal Stream Logic: Synthesis Beyond the Bools
-- (CAV 2019), inputs, outputs and cells. Which signal is which is this project's own rule.
use Rattle.std.specs.Prelude.{ℕ, Bool, false, not, ◌&&◌, ◌||◌, ◌==◌, List, [], ◌∷◌, ◌++◌, length, filter, flat_map, if◌then◌else◌}
use Rattle.std.specs.List.{list_any}
use Rattle.base_library.specs.Numbers.{numbers_from}
use Rattle.tsl_terms.specs.declared.names.NameKind.TheVariants.{Signal}
use Rattle.tsl_terms.specs.Name.{is_name}
use Rattle.tsl_terms.specs.TermTree.{TermTree, signal, apply, TermTrees, no_terms, more_terms}
use Rattle.tsl_terms.specs.FormulaTree.{Atom, test, update, FormulaTree}
use Rattle.tsl_terms.specs.Atoms.{atoms}
use Rattle.tsl_terms.specs.SameTree.{same_tree}
use Rattle.tsl_terms.specs.Distinct.{without_repeats}
use Rattle.tsl_terms.specs.SpecTree.{SpecTree, whole_formula}

-- whether a term reads a signal
abbrev mutual
  pub term_reads : ℕ → TermTree → Bool
  term_reads s (signal r) = r == s
  term_reads s (apply f arguments) = some_term_reads s arguments

  pub some_term_reads : ℕ → TermTrees → Bool
  some_term_reads s no_terms = false
  some_term_reads s (more_terms t ts) = term_reads s t || some_term_reads s ts

-- whether an atom reads a signal: by its term or its arguments, not by the left side of an update
abbrev pub atom_reads : ℕ → Atom → Bool
atom_reads s (test p) = some_term_reads s p.arguments
atom_reads s (update r t) = term_reads s t

-- whether some term or bare name of a formula reads a signal
abbrev pub formula_reads : ℕ → FormulaTree → Bool
formula_reads s f = list_any (atom_reads s) (atoms f)

-- whether an atom is an update of a signal
abbrev pub atom_updates : ℕ → Atom → Bool
atom_updates s (test p) = false
atom_updates s (update r t) = r == s

-- whether a formula updates a signal
abbrev pub formula_updates : ℕ → FormulaTree → Bool
formula_updates s f = list_any (atom_updates s) (atoms f)

-- the term that an update of a signal names
abbrev pub term_for : ℕ → Atom → List TermTree
term_for s (test p) = []
term_for s (update r t) = if r == s then t ∷ [] else []

-- the terms that the updates of a signal name in a formula, from the left
abbrev pub terms_for : ℕ → FormulaTree → List TermTree
terms_for s f = flat_map (term_for s) (atoms f)

-- a signal on the left of an update is a cell where a term or a bare name reads it, and else an output
abbrev pub is_cell : SpecTree → ℕ → Bool
is_cell spec s = formula_updates s (whole_formula spec) && formula_reads s (whole_formula spec)

abbrev pub is_output : SpecTree → ℕ → Bool
is_output spec s = formula_updates s (whole_formula spec) && not (formula_reads s (whole_formula spec))

-- every other signal is an input
abbrev pub is_input : SpecTree → ℕ → Bool
is_input spec s = is_name spec.names s Signal 0 && not (formula_updates s (whole_formula spec))

-- the numbers of the names, in order
abbrev pub name_numbers : SpecTree → List ℕ
name_numbers spec = numbers_from 0 (length spec.names)

abbrev pub inputs_of : SpecTree → List ℕ
inputs_of spec = filter (is_input spec) (name_numbers spec)

abbrev pub cells_of : SpecTree → List ℕ
cells_of spec = filter (is_cell spec) (name_numbers spec)

abbrev pub outputs_of : SpecTree → List ℕ
outputs_of spec = filter (is_output spec) (name_numbers spec)

-- the choices of a cell or an output: the terms that its updates name, and for a cell the cell itself
abbrev pub choices_of : SpecTree → ℕ → List TermTree
choices_of spec s =
    without_repeats same_tree (terms_for s (whole_formula spec) ++ (if is_cell spec s then signal s ∷ [] else []))
