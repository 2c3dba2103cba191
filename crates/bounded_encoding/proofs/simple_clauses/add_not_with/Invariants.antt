use Rattle.std.proofs.Common.{◌+◌, [], ◌∷◌}
use Rattle.bounded_encoding.specs.ClauseLists.{each}
use Rattle.bounded_encoding.specs.SimpleClauses.{no_at, no_two_with}
use Rattle.bounded_encoding.proofs.Begun.{LeadsOn}
use Rattle.bounded_encoding.proofs.simple_clauses.add_not_with.Given as goal

abbrev pub invariant-loop-y : goal.invariant-loop-y
invariant-loop-y l =
    LeadsOn l.out (each l.y l.to
    (λ y. (no_at (l.base + l.x) ∷ no_at (l.base + y) ∷ []) ∷ [])) l.fn.out
    (no_two_with (λ z. l.base + z) l.x l.to)
