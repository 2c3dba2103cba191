use Rattle.std.proofs.Common.{MatchOption}
use Rattle.sat_trail.specs.internal.Watching.{AreAllBefore, IsOther}
use Rattle.sat_trail.proofs.watches.last_other.Given as goal

abbrev pub invariant-loop-position : goal.invariant-loop-position
invariant-loop-position l = MatchOption l.found (AreAllBefore l.literals l.except l.position) (IsOther l.literals l.except)
