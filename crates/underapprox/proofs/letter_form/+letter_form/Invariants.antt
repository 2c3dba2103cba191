use Rattle.std.proofs.Common.{◌≡◌, ◌≤◌, ◌++◌, map}
use Rattle.tsl_terms.specs.declared.formula.FormulaList.{size-FormulaList}
use Rattle.tsl_terms.specs.FormulaTree.{formula_trees}
use Rattle.ltl_formula.specs.LtlTree.{ltl_tree, ltl_formulas_in}
use Rattle.letter_space.specs.SpaceView.{space_tree}
use Rattle.underapprox.specs.LetterForm.{letter_forms, not_letter_forms}
use Rattle.underapprox.proofs.letter_form.+letter_form.Given as goal

-- the forms that are made, and then those of the members that are left
abbrev pub invariant-forms_of-loop-rest : goal.invariant-forms_of-loop-rest
invariant-forms_of-loop-rest l =
    (map ltl_tree l.made.items ++ ltl_formulas_in (letter_forms (space_tree l.space) (formula_trees l.rest))
    ≡ ltl_formulas_in (letter_forms (space_tree l.space) (formula_trees l.fn.formulas)))
    × (size-FormulaList l.rest ≤ size-FormulaList l.initial.rest)

abbrev pub invariant-not_forms_of-loop-rest : goal.invariant-not_forms_of-loop-rest
invariant-not_forms_of-loop-rest l =
    (map ltl_tree l.made.items ++ ltl_formulas_in (not_letter_forms (space_tree l.space) (formula_trees l.rest))
    ≡ ltl_formulas_in (not_letter_forms (space_tree l.space) (formula_trees l.fn.formulas)))
    × (size-FormulaList l.rest ≤ size-FormulaList l.initial.rest)
