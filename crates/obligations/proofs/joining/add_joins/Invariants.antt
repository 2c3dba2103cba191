use Rattle.std.proofs.Common.{◌≡◌, ◌++◌, ◌≤◌, drop, length, nat_eq}
use Rattle.std.specs.List.{filter_map}
use Rattle.std.specs.Ordering.{nat_cmp}
use Rattle.obligations.specs.Choices.{joined, most_choices}
use Rattle.obligations.specs.Numbers.{choice_key, choice_keys}
use Rattle.obligations.proofs.joining.add_joins.Given as goal

-- the list so far, and then the joins with what is left, are the list at the start and then all joins
abbrev pub invariant-loop-choice : goal.invariant-loop-choice
invariant-loop-choice l = record {
  choices : choice_keys l.list.items ++ filter_map (joined nat_eq nat_cmp (choice_key l.left)) (choice_keys (drop l.choice-index l.right))
      ≡ choice_keys l.fn.list.items ++ filter_map (joined nat_eq nat_cmp (choice_key l.left)) (choice_keys l.right);
  few : length l.list.items ≤ most_choices;
}
