use Rattle.std.proofs.Common.{◌≡◌, ◌≤◌}
use Rattle.ltl_formula.specs.declared.formula.LtlList.{size-LtlList}
use Rattle.ltl_formula.specs.LtlTree.{ltl_trees}
use Rattle.ltl_formula.specs.LtlOrder.{tree_cmp}
use Rattle.ltl_formula.specs.Increasing.{IsIncreasing, union}
use Rattle.obligations.specs.Numbers.{lent_trees}
use Rattle.obligations.specs.Obligations.{obligations_of_all}
use Rattle.obligations.proofs.naming.+naming.Given as goal

-- the names so far, and then those of the members that are left
abbrev pub invariant-add_obligations_of_all-loop-rest : goal.invariant-add_obligations_of_all-loop-rest
invariant-add_obligations_of_all-loop-rest l = record {
  names : union tree_cmp (lent_trees l.names.items) (obligations_of_all (ltl_trees l.rest))
      ≡ union tree_cmp (lent_trees l.fn.names.items) (obligations_of_all (ltl_trees l.fn.formulas));
  rises : IsIncreasing tree_cmp (lent_trees l.names.items);
  left : size-LtlList l.rest ≤ size-LtlList l.fn.formulas;
}
