use Rattle.std.proofs.Common.{◌≡◌, ◌≤◌, ◌++◌, map}
use Rattle.ltl_formula.specs.declared.formula.LtlList.{size-LtlList}
use Rattle.ltl_formula.specs.LtlTree.{ltl_tree, ltl_member_trees}
use Rattle.ltl_formula.proofs.copy.+copy.Given as goal

-- the copies, and then the members that are left
abbrev pub invariant-copy_members-loop-rest : goal.invariant-copy_members-loop-rest
invariant-copy_members-loop-rest l =
    (map ltl_tree l.copies.items ++ ltl_member_trees l.rest ≡ ltl_member_trees l.fn.formulas)
    × (size-LtlList l.rest ≤ size-LtlList l.initial.rest)
