use Rattle.std.proofs.Common.{◌≡◌, ◌-◌, ◌≤◌, length, take}
use Rattle.tsl_io.specs.Told.{with_added}
use Rattle.tsl_io.proofs.sink.write_all_of.Given as goal

-- the first bytes are written, and no call failed
abbrev pub invariant-loop-done : goal.invariant-loop-done
invariant-loop-done g l = record {
  written : g.K.Sink.written l.sink ≡ with_added (take l.done l.bytes) (g.K.Sink.written l.fn.sink);
  count : g.K.Sink.faults l.sink ≡ g.K.Sink.faults l.fn.sink;
  within : l.done ≤ length l.bytes;
}

abbrev pub decreases-loop-done : goal.decreases-loop-done
decreases-loop-done g l = length l.bytes - l.done
