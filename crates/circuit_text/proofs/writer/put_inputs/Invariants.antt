-- What is written are the lines of the inputs so far.
use Rattle.std.proofs.Common.{◌≡◌, ◌++◌, map}
use Rattle.base_library.specs.Numbers.{numbers_from}
use Rattle.tsl_text.specs.Written.{text_of_lines}
use Rattle.circuit_text.specs.CircuitText.{input_line}
use Rattle.circuit_text.proofs.writer.put_inputs.Given as goal

abbrev pub invariant-loop-before : goal.invariant-loop-before
invariant-loop-before l = l.out.items ≡ l.fn.out.items ++ text_of_lines (map input_line (numbers_from 1 l.before))
