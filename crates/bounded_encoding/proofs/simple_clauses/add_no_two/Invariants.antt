use Rattle.std.proofs.Common.{◌+◌}
use Rattle.bounded_encoding.specs.ClauseLists.{each}
use Rattle.bounded_encoding.specs.SimpleClauses.{no_two_with, no_two}
use Rattle.bounded_encoding.proofs.Begun.{LeadsOn}
use Rattle.bounded_encoding.proofs.simple_clauses.add_no_two.Given as goal

abbrev pub invariant-loop-x : goal.invariant-loop-x
invariant-loop-x l =
    LeadsOn l.out (each l.x l.to
    (λ x. no_two_with (λ z. l.base + z) x l.to)) l.fn.out
    (no_two (λ z. l.base + z) l.from l.to)
