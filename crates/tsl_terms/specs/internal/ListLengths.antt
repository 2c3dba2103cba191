-- Internal: only private functions of this crate use these words.
-- How many members lists of formulas have.
use Rattle.std.specs.Prelude.{Bool, true, false}
use Rattle.tsl_terms.specs.FormulaTree.{FormulaTrees, no_formulas, more_formulas}

abbrev pub is_empty : FormulaTrees → Bool
is_empty no_formulas = true
is_empty (more_formulas f fs) = false

-- whether two lists have one member together
abbrev pub is_one : FormulaTrees → FormulaTrees → Bool
is_one (more_formulas f fs) no_formulas = is_empty fs
is_one no_formulas (more_formulas g gs) = is_empty gs
is_one no_formulas no_formulas = false
is_one (more_formulas f fs) (more_formulas g gs) = false
