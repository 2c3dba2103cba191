use Rattle.std.proofs.Common.{◌≡◌, ◌+◌, ◌++◌, map}
use Rattle.bounded_encoding.specs.ClauseLists.{between}
use Rattle.bounded_encoding.specs.SimpleClauses.{yes_at}
use Rattle.bounded_encoding.proofs.simple_clauses.add_some.Given as goal

abbrev pub invariant-loop-x : goal.invariant-loop-x
invariant-loop-x l =
    l.literals.items ++ map (λ z. yes_at (l.base + z)) (between l.x l.to) ≡ map (λ z. yes_at (l.base + z)) (between l.from l.to)
