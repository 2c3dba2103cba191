use Rattle.std.proofs.Common.{◌≡◌, ◌-◌, ◌≤◌, ◌<◌, vec_len}
use Rattle.tsl_io.specs.Handed.{HandsOn}
use Rattle.tsl_io.proofs.source.read_into.Given as goal

abbrev pub invariant-loop-taken : goal.invariant-loop-taken
invariant-loop-taken g l = record {
  handed_on : HandsOn l.taken (g.S.Source.left l.fn.source) (g.S.Source.left l.source) (g.T.TakePieces.has_taken l.fn.taker)
      (g.T.TakePieces.has_taken l.taker);
  count : g.S.Source.faults l.source ≡ g.S.Source.faults l.fn.source;
  within : l.taken ≤ l.most;
  room : 0 < vec_len l.buffer;
}

abbrev pub decreases-loop-taken : goal.decreases-loop-taken
decreases-loop-taken g l = l.most - l.taken
