use Rattle.sat_trail.specs.Entries.{literals_of}
use Rattle.sat_trail.specs.internal.Watching.{AreFalseBefore}
use Rattle.sat_trail.proofs.watches.first_free.Given as goal

abbrev pub invariant-loop-position : goal.invariant-loop-position
invariant-loop-position l = AreFalseBefore (literals_of l.stack.entries) l.literals l.position
