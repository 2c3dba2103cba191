use Rattle.std.proofs.Common.{◌≡◌, [], ◌∷◌, drop, map, nat_eq}
use Rattle.std.specs.Ordering.{nat_cmp}
use Rattle.ltl_formula.specs.LtlTree.{ltl_tree}
use Rattle.obligations.specs.Choices.{empty_choice}
use Rattle.obligations.specs.Expansion.{choices_from}
use Rattle.obligations.specs.Numbers.{choice_keys, lent_trees, formula_number}
use Rattle.obligations.specs.internal.Antichains.{IsAntichain}
use Rattle.obligations.proofs.stepping.numbered_choices.Given as goal

-- what the choices so far make with the members that are left
abbrev pub invariant-loop-member : goal.invariant-loop-member
invariant-loop-member l = record {
  choices : choices_from nat_eq nat_cmp (formula_number (lent_trees l.names)) (choice_keys l.so_far.items)
      (map ltl_tree (drop l.member-index l.members))
      ≡ choices_from nat_eq nat_cmp (formula_number (lent_trees l.names)) (empty_choice ∷ []) (map ltl_tree l.members);
  antichain : IsAntichain (choice_keys l.so_far.items);
}
