use Rattle.std.proofs.Common.{◌≡◌, ◌≤◌, [], ◌∷◌, nat_eq}
use Rattle.std.specs.Ordering.{nat_cmp}
use Rattle.ltl_formula.specs.declared.formula.LtlList.{size-LtlList}
use Rattle.ltl_formula.specs.LtlTree.{ltl_trees}
use Rattle.obligations.specs.Choices.{empty_choice}
use Rattle.obligations.specs.Expansion.{all_choices_by, any_choices_by}
use Rattle.obligations.specs.Numbers.{choice_keys, lent_trees, formula_number}
use Rattle.obligations.specs.internal.Antichains.{IsAntichain}
use Rattle.obligations.proofs.expanding.+expand.Given as goal

-- what the choices so far make with the members that are left
abbrev pub invariant-expand_all-loop-rest : goal.invariant-expand_all-loop-rest
invariant-expand_all-loop-rest l = record {
  choices : all_choices_by nat_eq nat_cmp (formula_number (lent_trees l.names)) (choice_keys l.so_far.items) (ltl_trees l.rest)
      ≡ all_choices_by nat_eq nat_cmp (formula_number (lent_trees l.names)) (empty_choice ∷ []) (ltl_trees l.fn.formulas);
  antichain : IsAntichain (choice_keys l.so_far.items);
  left : size-LtlList l.rest ≤ size-LtlList l.initial.rest;
}

abbrev pub invariant-expand_any-loop-rest : goal.invariant-expand_any-loop-rest
invariant-expand_any-loop-rest l = record {
  choices : any_choices_by nat_eq nat_cmp (formula_number (lent_trees l.names)) (choice_keys l.so_far.items) (ltl_trees l.rest)
      ≡ any_choices_by nat_eq nat_cmp (formula_number (lent_trees l.names)) [] (ltl_trees l.fn.formulas);
  antichain : IsAntichain (choice_keys l.so_far.items);
  left : size-LtlList l.rest ≤ size-LtlList l.initial.rest;
}
