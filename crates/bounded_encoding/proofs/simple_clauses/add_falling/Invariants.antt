use Rattle.std.proofs.Common.{◌+◌, ◌-◌, [], ◌∷◌}
use Rattle.bounded_encoding.specs.ClauseLists.{each}
use Rattle.bounded_encoding.specs.SimpleClauses.{yes_at, no_at, falling}
use Rattle.bounded_encoding.proofs.Begun.{LeadsOn}
use Rattle.bounded_encoding.proofs.simple_clauses.add_falling.Given as goal

abbrev pub invariant-loop-i : goal.invariant-loop-i
invariant-loop-i l =
    LeadsOn l.out (each l.i (l.bound + 1)
    (λ i. (no_at (l.base + i) ∷ yes_at (l.base + (i - 1)) ∷ []) ∷ [])) l.fn.out
    (falling (λ i. l.base + i) l.bound)
