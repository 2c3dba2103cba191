-- What holds of inputs, cells and outputs, of the atoms of a whole formula, and of what it is made of: the statements of laws.
use Rattle.std.specs.Prelude.{◌≡◌, ℕ, ◌<◌, List, ◌++◌, flat_map, Some, slice_get, IsTrue}
use Rattle.std.specs.List.{list_all}
use Rattle.base_library.specs.Numbers.{IsDistinct}
use Rattle.tsl_terms.specs.Atoms.{atoms}
use Rattle.tsl_terms.specs.OnlyThese.{formula_reads_only, formula_updates_only}
use Rattle.tsl_terms.specs.SpecTree.{SpecTree, all_formulas, whole_formula}
use Rattle.tsl_terms.specs.Signals.{inputs_of, cells_of, outputs_of}
use Rattle.tsl_terms.specs.WellFormed.{formula_fits}

-- the formulas of a specification fit its names
abbrev pub FormulasFit : SpecTree → Type 0
FormulasFit spec = IsTrue (list_all (formula_fits spec.names) (all_formulas spec))

-- each number is larger than those before it
abbrev pub IsRising : List ℕ → Type 0
IsRising ns = (i j m n : ℕ) → i < j → slice_get ns i ≡ Some m → slice_get ns j ≡ Some n → m < n

-- no signal stands twice in the three lists together
abbrev pub SignalsAreDistinct : Type 0
SignalsAreDistinct = (spec : SpecTree) → IsDistinct ((inputs_of spec ++ cells_of spec) ++ outputs_of spec)

-- each list is in the order of the names
abbrev pub SignalsAreInOrder : Type 0
SignalsAreInOrder = (spec : SpecTree) → IsRising (inputs_of spec) × IsRising (cells_of spec) × IsRising (outputs_of spec)

-- what the whole formula reads is an input or a cell
abbrev pub InputsAndCellsAreRead : Type 0
InputsAndCellsAreRead = (spec : SpecTree) → FormulasFit spec →
    IsTrue (formula_reads_only (inputs_of spec ++ cells_of spec) (whole_formula spec))

-- what the whole formula updates is a cell or an output
abbrev pub CellsAndOutputsAreUpdated : Type 0
CellsAndOutputsAreUpdated = (spec : SpecTree) → FormulasFit spec →
    IsTrue (formula_updates_only (cells_of spec ++ outputs_of spec) (whole_formula spec))

-- the atoms of the whole formula are those of the four lists, one list after another
abbrev pub WholeHasTheAtoms : Type 0
WholeHasTheAtoms = (spec : SpecTree) → atoms (whole_formula spec) ≡ flat_map atoms (all_formulas spec)

-- the whole formula of formulas that fit fits the names
abbrev pub WholeFits : Type 0
WholeFits = (spec : SpecTree) → FormulasFit spec → IsTrue (formula_fits spec.names (whole_formula spec))
