use Rattle.std.proofs.Common.{◌≡◌, ◌≤◌, ◌++◌, map}
use Rattle.tsl_terms.specs.declared.formula.FormulaList.{size-FormulaList}
use Rattle.tsl_terms.specs.FormulaTree.{formula_tree, member_trees}
use Rattle.tsl_terms.proofs.copy.+copy_formulas.Given as goal

-- the copies, and then the members that are left
abbrev pub invariant-copy_members-loop-rest : goal.invariant-copy_members-loop-rest
invariant-copy_members-loop-rest l =
    (map formula_tree l.copies.items ++ member_trees l.rest ≡ member_trees l.fn.formulas)
    × (size-FormulaList l.rest ≤ size-FormulaList l.initial.rest)
