-- What is written and what is left make the whole.
use Rattle.std.proofs.Common.{◌≡◌, ◌++◌, drop, length}
use Rattle.trace_text.specs.TraceText.{values_text}
use Rattle.trace_text.proofs.put_values.Given as goal

abbrev pub invariant-loop-signal : goal.invariant-loop-signal
invariant-loop-signal l = record {
  can_next : (goal.iterator-loop-signal).can_next l.signal-iterator;
  is_finite : (goal.iterator-loop-signal).is_finite l.signal-iterator;
  written : l.out.items ++ values_text l.names (drop (length l.yielded) l.signals) (drop (length l.yielded) l.values)
      ≡ l.fn.out.items ++ values_text l.names l.signals l.values;
}
