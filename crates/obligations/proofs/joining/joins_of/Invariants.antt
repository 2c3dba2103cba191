use Rattle.std.proofs.Common.{◌≡◌, ◌++◌, ◌≤◌, drop, length, nat_eq}
use Rattle.std.specs.Ordering.{nat_cmp}
use Rattle.obligations.specs.Choices.{joins, most_choices}
use Rattle.obligations.specs.Numbers.{choice_keys}
use Rattle.obligations.proofs.joining.joins_of.Given as goal

-- the joins so far, and then those of the choices that are left, are all joins
abbrev pub invariant-loop-choice : goal.invariant-loop-choice
invariant-loop-choice l = record {
  choices : choice_keys l.list.items ++ joins nat_eq nat_cmp (choice_keys (drop l.choice-index l.left)) (choice_keys l.right)
      ≡ joins nat_eq nat_cmp (choice_keys l.left) (choice_keys l.right);
  few : length l.list.items ≤ most_choices;
}
