use Rattle.std.proofs.Common.{◌≡◌, drop}
use Rattle.obligations.specs.Numbers.{choice_keys}
use Rattle.obligations.specs.internal.Antichains.{is_antichain}
use Rattle.obligations.proofs.reducing.is_antichain.Given as goal

-- the choices gone through are apart from each other and from those that are left
abbrev pub invariant-loop-place : goal.invariant-loop-place
invariant-loop-place l = is_antichain (choice_keys (drop l.place l.choices)) ≡ is_antichain (choice_keys l.choices)
