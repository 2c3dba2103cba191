use Rattle.std.proofs.Common.{◌≡◌, ◌+◌, ◌*◌, ◌%◌, ◌<◌, drop}
use Rattle.std.specs.Prelude.{fold}
use Rattle.interp_core.specs.Wheel.{digits_of}
use Rattle.interp_core.proofs.wheel.digits.Given as goal

-- the digits that are left go on from the number so far
abbrev pub invariant-loop-argument : goal.invariant-loop-argument
invariant-loop-argument l =
    (fold (λ n v. (3 * n + v) % l.size) l.number (drop l.argument-index l.arguments) ≡ digits_of l.size l.arguments) × (l.number < l.size)
