use Rattle.clause_core.specs.Clauses.{assignment_of}
use Rattle.bounded_encoding.proofs.SolutionsAreAssignments.Readings.{numbered_next}
use Rattle.counterstrategy.specs.internal.DualReading.{truths_at}
use Rattle.counterstrategy.proofs.environment_reading.truths_of_states.Goals as goal

pub loop-state-preserved : goal.loop-state-preserved
loop-state-preserved c =
    numbered_next (truths_at (assignment_of c.args.truths.now) c.args.tests) _ _ _ _ c.loop-state.invariant c.true_bits.ensures
    c.in_ok-push.ensures.items
