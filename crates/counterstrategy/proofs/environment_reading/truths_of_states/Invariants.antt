use Rattle.std.proofs.Common.{◌≡◌}
use Rattle.clause_core.specs.Clauses.{assignment_of}
use Rattle.counterstrategy.specs.internal.DualReading.{truths_from}
use Rattle.counterstrategy.proofs.environment_reading.truths_of_states.Given as goal

abbrev pub invariant-loop-state : goal.invariant-loop-state
invariant-loop-state l = l.valuations.items ≡ truths_from (assignment_of l.truths) l.tests l.state
