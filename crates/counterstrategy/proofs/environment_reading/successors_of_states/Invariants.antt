use Rattle.std.proofs.Common.{◌≡◌}
use Rattle.clause_core.specs.Clauses.{assignment_of}
use Rattle.counterstrategy.specs.internal.DualReading.{successors_from}
use Rattle.counterstrategy.proofs.environment_reading.successors_of_states.Given as goal

abbrev pub invariant-loop-number : goal.invariant-loop-number
invariant-loop-number l = l.next.items ≡ successors_from (assignment_of l.truths) l.base l.states l.number
