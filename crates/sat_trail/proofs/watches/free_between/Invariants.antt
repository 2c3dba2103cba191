use Rattle.sat_trail.specs.Entries.{literals_of}
use Rattle.sat_trail.specs.internal.Watching.{AreFalseBetween}
use Rattle.sat_trail.proofs.watches.free_between.Given as goal

abbrev pub invariant-loop-position : goal.invariant-loop-position
invariant-loop-position l = AreFalseBetween (literals_of l.stack.entries) l.literals l.except l.start l.position
