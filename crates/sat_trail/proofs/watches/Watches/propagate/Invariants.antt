use Rattle.std.proofs.Common.{◌≡◌, ◌-◌, length}
use Rattle.sat_trail.specs.States.{Propagates}
use Rattle.sat_trail.specs.internal.Watching.{MayPropagate, left_of}
use Rattle.sat_trail.proofs.watches.Watches.propagate.Given as goal

abbrev pub invariant-loop-self : goal.invariant-loop-self
invariant-loop-self l = record {
  ready : MayPropagate l.stack l.self;
  grows : Propagates l.fn.stack l.stack;
}

abbrev pub decreases-loop-self : goal.decreases-loop-self
decreases-loop-self l = left_of (length l.stack.clauses) l.self

abbrev pub invariant-loop-self-2 : goal.invariant-loop-self-2
invariant-loop-self-2 l = record {
  ready : MayPropagate l.stack l.self;
  grows : Propagates l.fn.stack l.stack;
  none_left : left_of (length l.stack.clauses) l.self ≡ 0;
}

abbrev pub decreases-loop-self-2 : goal.decreases-loop-self-2
decreases-loop-self-2 l = l.stack.variables - l.self.head
