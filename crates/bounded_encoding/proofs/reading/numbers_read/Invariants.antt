use Rattle.std.proofs.Common.{◌≡◌}
use Rattle.clause_core.specs.Clauses.{assignment_of}
use Rattle.bounded_encoding.specs.Reading.{numbers_from_index}
use Rattle.bounded_encoding.proofs.reading.numbers_read.Given as goal

abbrev pub invariant-loop-pair : goal.invariant-loop-pair
invariant-loop-pair l = l.numbers.items ≡ numbers_from_index (assignment_of l.truths) l.base l.count l.pair
