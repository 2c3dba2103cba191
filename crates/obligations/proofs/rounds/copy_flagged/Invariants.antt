use Rattle.std.proofs.Common.{◌≡◌, ◌++◌, drop}
use Rattle.obligations.specs.Numbers.{choice_keys}
use Rattle.obligations.specs.internal.Rounds.{flagged_members}
use Rattle.obligations.proofs.rounds.copy_flagged.Given as goal

-- the copies so far, and then the choices that are left and flagged
abbrev pub invariant-loop-place : goal.invariant-loop-place
invariant-loop-place l =
    choice_keys l.kept.items ++ flagged_members (choice_keys (drop l.place l.choices)) (drop l.place l.flags)
    ≡ flagged_members (choice_keys l.choices) l.flags
