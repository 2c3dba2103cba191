use Rattle.std.proofs.Common.{◌≡◌, length, take}
use Rattle.obligations.specs.Numbers.{choice_keys}
use Rattle.obligations.specs.internal.Rounds.{flagged_members}
use Rattle.obligations.proofs.reducing.take_flagged.Given as goal

-- those gone through have been taken where their flags are set
abbrev pub invariant-loop-choice : goal.invariant-loop-choice
invariant-loop-choice l =
    (l.place ≡ length l.yielded) × (choice_keys l.kept.items ≡ flagged_members (choice_keys l.yielded) (take l.place l.flags))
