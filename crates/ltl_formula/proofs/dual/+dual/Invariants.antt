use Rattle.std.proofs.Common.{◌≡◌, ◌≤◌, ◌++◌, map}
use Rattle.ltl_formula.specs.declared.formula.LtlList.{size-LtlList}
use Rattle.ltl_formula.specs.LtlTree.{ltl_tree, ltl_trees, ltl_formulas_in}
use Rattle.ltl_formula.specs.Dual.{duals}
use Rattle.ltl_formula.proofs.dual.+dual.Given as goal

-- the duals that are made, and then those of the members that are left
abbrev pub invariant-dual_members-loop-rest : goal.invariant-dual_members-loop-rest
invariant-dual_members-loop-rest l =
    (map ltl_tree l.made.items ++ ltl_formulas_in (duals (ltl_trees l.rest)) ≡ ltl_formulas_in (duals (ltl_trees l.fn.formulas)))
    × (size-LtlList l.rest ≤ size-LtlList l.initial.rest)
