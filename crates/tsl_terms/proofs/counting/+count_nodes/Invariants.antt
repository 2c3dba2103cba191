use Rattle.std.proofs.Common.{◌≡◌, ◌+◌, ◌-◌, ◌^◌, ◌≤◌, min}
use Rattle.tsl_terms.specs.declared.formula.FormulaList.{size-FormulaList}
use Rattle.tsl_terms.specs.FormulaTree.{formula_trees}
use Rattle.tsl_terms.specs.Nodes.{nodes_of_members}
use Rattle.tsl_terms.proofs.counting.+count_nodes.Given as goal

-- the count so far, and then that of the formulas that are left
abbrev pub invariant-member_count-loop-rest : goal.invariant-member_count-loop-rest
invariant-member_count-loop-rest l =
    (min (l.count + nodes_of_members (formula_trees l.rest)) (2 ^ 64 - 1)
    ≡ min (nodes_of_members (formula_trees l.fn.formulas)) (2 ^ 64 - 1))
    × (l.count ≤ 2 ^ 64 - 1)
    × (size-FormulaList l.rest ≤ size-FormulaList l.initial.rest)
