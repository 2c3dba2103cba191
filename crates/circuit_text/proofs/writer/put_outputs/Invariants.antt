-- What is written and what is left make the whole.
use Rattle.std.proofs.Common.{◌≡◌, ◌++◌, map, drop}
use Rattle.tsl_text.specs.Written.{text_of_lines}
use Rattle.circuit_text.specs.CircuitText.{output_line}
use Rattle.circuit_text.proofs.writer.put_outputs.Given as goal

abbrev pub invariant-loop-literal : goal.invariant-loop-literal
invariant-loop-literal l =
    l.out.items ++ text_of_lines (map output_line (drop l.literal-index l.outputs))
    ≡ l.fn.out.items ++ text_of_lines (map output_line l.outputs)
