use Rattle.std.proofs.Common.{◌+◌, ◌*◌}
use Rattle.clause_core.specs.Clauses.{assignment_of}
use Rattle.bounded_encoding.specs.Reading.{number_from}
use Rattle.bounded_encoding.proofs.SolutionsAreAssignments.Readings.{numbered_next}
use Rattle.bounded_encoding.proofs.reading.numbers_read.Goals as goal

pub loop-pair-preserved : goal.loop-pair-preserved
loop-pair-preserved c =
    numbered_next (λ k. number_from (assignment_of c.args.truths.now) (c.args.base + k * c.args.count) c.args.count) _ _ _ _
    c.loop-pair.invariant c.number_read.ensures c.in_ok-push.ensures.items
