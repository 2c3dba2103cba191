use Rattle.std.proofs.Common.{◌≡◌, drop}
use Rattle.obligations.specs.internal.Rounds.{rises_after}
use Rattle.obligations.proofs.rounds.rises_after.Given as goal

-- the numbers gone through rise
abbrev pub invariant-loop-number : goal.invariant-loop-number
invariant-loop-number l = rises_after l.last (drop l.number-index l.numbers) ≡ rises_after l.fn.first l.numbers
