use Rattle.std.proofs.Common.{◌≡◌, drop, map}
use Rattle.ltl_formula.specs.LtlTree.{ltl_tree}
use Rattle.ltl_formula.specs.LtlOrder.{tree_cmp}
use Rattle.ltl_formula.specs.Increasing.{IsIncreasing, union}
use Rattle.obligations.specs.Numbers.{lent_trees}
use Rattle.obligations.specs.Obligations.{reachable, closure_of}
use Rattle.obligations.proofs.naming.names_of.Given as goal

-- the names so far, and then those of the formulas that are left
abbrev pub invariant-loop-formula : goal.invariant-loop-formula
invariant-loop-formula l = record {
  names : union tree_cmp (lent_trees l.names.items) (reachable (map ltl_tree (drop l.formula-index l.formulas)))
      ≡ closure_of (map ltl_tree l.formulas);
  rises : IsIncreasing tree_cmp (lent_trees l.names.items);
}
