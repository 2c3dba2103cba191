use Rattle.clause_core.specs.Clauses.{assignment_of}
use Rattle.bounded_encoding.proofs.SolutionsAreAssignments.Readings.{numbered_next}
use Rattle.counterstrategy.specs.internal.DualReading.{successor_numbered}
use Rattle.counterstrategy.proofs.environment_reading.successors_of_states.Goals as goal

pub loop-number-preserved : goal.loop-number-preserved
loop-number-preserved c =
    numbered_next (successor_numbered (assignment_of c.args.truths.now) c.args.base c.args.states) _ _ _ _ c.loop-number.invariant
    c.first_true.ensures c.in_ok-push.ensures.items
