use Rattle.sat_trail.specs.States.{Propagates}
use Rattle.sat_trail.specs.internal.Watching.{MayPropagate, IsVisiting, StaysAt}
use Rattle.sat_trail.proofs.watches.Watches.visit_entry.Given as goal

abbrev pub invariant-loop-index : goal.invariant-loop-index
invariant-loop-index l = record {
  ready : MayPropagate l.stack l.self;
  grows : Propagates l.fn.stack l.stack;
  visiting : IsVisiting l.stack l.self l.falsified l.index;
  stays : StaysAt l.fn.self l.self;
}

abbrev pub decreases-loop-index : goal.decreases-loop-index
decreases-loop-index l = l.index
