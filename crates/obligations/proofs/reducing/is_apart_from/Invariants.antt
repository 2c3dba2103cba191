use Rattle.std.proofs.Common.{◌≡◌, drop}
use Rattle.std.specs.List.{list_all}
use Rattle.obligations.specs.Numbers.{choice_key, choice_keys}
use Rattle.obligations.specs.internal.Antichains.{are_apart}
use Rattle.obligations.proofs.reducing.is_apart_from.Given as goal

-- it is apart from those gone through
abbrev pub invariant-loop-other : goal.invariant-loop-other
invariant-loop-other l =
    list_all (are_apart (choice_key l.choice)) (choice_keys (drop l.other-index l.others))
    ≡ list_all (are_apart (choice_key l.choice)) (choice_keys l.others)
