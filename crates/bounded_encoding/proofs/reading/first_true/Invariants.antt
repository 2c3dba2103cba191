use Rattle.std.proofs.Common.{◌≡◌, ◌+◌}
use Rattle.std.specs.Prelude.{find}
use Rattle.std.specs.Option.{unwrap_or}
use Rattle.clause_core.specs.Clauses.{assignment_of}
use Rattle.bounded_encoding.specs.ClauseLists.{between}
use Rattle.bounded_encoding.specs.Reading.{next_from}
use Rattle.bounded_encoding.proofs.reading.first_true.Given as goal

abbrev pub invariant-loop-place : goal.invariant-loop-place
invariant-loop-place l =
    unwrap_or (find (λ c. assignment_of l.truths (l.from + c)) (between l.place l.count)) 0
    ≡ next_from (assignment_of l.truths) l.from l.count
