-- Worked examples: the texts of two circuits.
use Rattle.std.proofs.Common.{◌≡◌, [], ◌∷◌, codes, refl}
use Rattle.std.specs.Fmt.{digits}
use Rattle.circuit_text.specs.CircuitText.{circuit_text}

-- one output, which is true
true_alone : circuit_text (record { inputs = 0; latches = []; outputs = 1 ∷ []; gates = [] }) ≡ codes "aag 0 0 0 1 0\n1\n"
unfolding digits
true_alone = refl

-- an input, a latch and a gate: variables 1 to 3
one_of_each : circuit_text (record { inputs = 1; latches = 7 ∷ []; outputs = 4 ∷ 6 ∷ []; gates = record { left = 2; right = 5 } ∷ [] })
    ≡ codes "aag 3 1 1 2 1\n2\n4 7\n4\n6\n6 2 5\n"
unfolding digits
one_of_each = refl
