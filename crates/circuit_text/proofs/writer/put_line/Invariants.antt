-- What is written and what is left make the whole.
use Rattle.std.proofs.Common.{◌≡◌, ◌++◌, ◌∷◌, [], drop}
use Rattle.circuit_text.specs.CircuitText.{numbers_line}
use Rattle.circuit_text.proofs.CircuitLines.{spaced}
use Rattle.circuit_text.proofs.writer.put_line.Given as goal

abbrev pub invariant-loop-number : goal.invariant-loop-number
invariant-loop-number l =
    l.out.items ++ (spaced (drop l.number-index l.others) ++ 10 ∷ [])
    ≡ l.fn.out.items ++ (numbers_line (l.first ∷ l.others) ++ 10 ∷ [])
