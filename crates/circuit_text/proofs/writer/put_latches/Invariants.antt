-- What is written and what is left make the whole.
use Rattle.std.proofs.Common.{◌≡◌, ◌+◌, ◌++◌, drop}
use Rattle.tsl_text.specs.Written.{text_of_lines}
use Rattle.circuit_text.specs.CircuitText.{latch_lines}
use Rattle.circuit_text.proofs.writer.put_latches.Given as goal

abbrev pub invariant-loop-next : goal.invariant-loop-next
invariant-loop-next l = record {
  number : l.own ≡ l.before + l.next-index;
  text : l.out.items ++ text_of_lines (latch_lines l.own (drop l.next-index l.latches))
      ≡ l.fn.out.items ++ text_of_lines (latch_lines l.before l.latches);
}
