use Rattle.std.proofs.Common.{◌≡◌, ◌+◌, ◌-◌, ◌^◌, ◌≤◌, map, min}
use Rattle.tsl_terms.specs.declared.operator.UnaryOperator.TheVariants.{Globally}
use Rattle.tsl_terms.specs.FormulaTree.{unary, formulas_of, member_trees}
use Rattle.tsl_terms.specs.Nodes.{nodes_of_members}
use Rattle.tsl_terms.proofs.counting.always_count.Given as goal

-- the count so far, and then that of the formulas that are left
abbrev pub invariant-loop-rest : goal.invariant-loop-rest
invariant-loop-rest l =
    (min (l.count + nodes_of_members (formulas_of (map (unary Globally) (member_trees l.rest)))) (2 ^ 64 - 1)
    ≡ min (nodes_of_members (formulas_of (map (unary Globally) (member_trees l.fn.formulas)))) (2 ^ 64 - 1))
    × (l.count ≤ 2 ^ 64 - 1)
