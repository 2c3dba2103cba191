use Rattle.std.proofs.Common.{◌≤◌, ◌++◌, map}
use Rattle.ltl_formula.specs.declared.formula.LtlList.{size-LtlList}
use Rattle.ltl_formula.specs.LtlTree.{ltl_tree, ltl_trees, ltl_member_trees, ltl_formulas_of}
use Rattle.ltl_rewriting.specs.internal.Members.{MeanSame}
use Rattle.ltl_rewriting.proofs.simplifying.+simplified.Given as goal

-- the formulas that are made, and then the members that are left
abbrev pub invariant-simplified_members-loop-rest : goal.invariant-simplified_members-loop-rest
invariant-simplified_members-loop-rest l =
    MeanSame (ltl_formulas_of (map ltl_tree l.made.items ++ ltl_member_trees l.rest)) (ltl_trees l.fn.formulas)
    × (size-LtlList l.rest ≤ size-LtlList l.initial.rest)
