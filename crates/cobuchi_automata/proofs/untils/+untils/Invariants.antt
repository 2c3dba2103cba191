use Rattle.std.proofs.Common.{◌≡◌, ◌≤◌}
use Rattle.base_library.specs.Kept.{with_new}
use Rattle.ltl_formula.specs.declared.formula.LtlList.{size-LtlList}
use Rattle.ltl_formula.specs.LtlTree.{ltl_trees}
use Rattle.obligations.specs.Expansion.{same_formula}
use Rattle.obligations.specs.Numbers.{lent_trees}
use Rattle.cobuchi_automata.specs.Automata.{untils_in_all}
use Rattle.cobuchi_automata.proofs.untils.+untils.Given as goal

-- the untils so far, and then those of the members that are left
abbrev pub invariant-add_untils_of_all-loop-rest : goal.invariant-add_untils_of_all-loop-rest
invariant-add_untils_of_all-loop-rest l = record {
  untils : with_new same_formula (lent_trees l.untils.items) (untils_in_all (ltl_trees l.rest))
      ≡ with_new same_formula (lent_trees l.fn.untils.items) (untils_in_all (ltl_trees l.fn.formulas));
  left : size-LtlList l.rest ≤ size-LtlList l.fn.formulas;
}
