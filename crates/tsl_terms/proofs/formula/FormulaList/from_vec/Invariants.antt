use Rattle.std.proofs.Common.{◌≡◌, map, vec_len}
use Rattle.base_library.proofs.Lists.{with_front}
use Rattle.tsl_terms.specs.FormulaTree.{more_formulas, formula_tree, formula_trees, formulas_of}
use Rattle.tsl_terms.proofs.formula.FormulaList.from_vec.Given as goal

-- the formulas that are left, and then those of the list
abbrev pub invariant-loop-formula : goal.invariant-loop-formula
invariant-loop-formula l =
    with_front more_formulas (map formula_tree l.formulas.items) (formula_trees l.list) ≡ formulas_of (map formula_tree l.fn.formulas.items)

abbrev pub decreases-loop-formula : goal.decreases-loop-formula
decreases-loop-formula l = vec_len l.formulas
