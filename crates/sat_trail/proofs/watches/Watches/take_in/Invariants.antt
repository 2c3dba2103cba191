use Rattle.std.proofs.Common.{◌≤◌, length}
use Rattle.sat_trail.specs.internal.Watching.{AreWatched, left_of}
use Rattle.sat_trail.proofs.watches.Watches.take_in.Given as goal

abbrev pub invariant-loop-self : goal.invariant-loop-self
invariant-loop-self l = record {
  watched : AreWatched l.stack l.self;
  left : left_of (length l.stack.clauses) l.self ≤ left_of (length l.stack.clauses) l.fn.self;
}

abbrev pub decreases-loop-self : goal.decreases-loop-self
decreases-loop-self l = left_of (length l.stack.clauses) l.self
