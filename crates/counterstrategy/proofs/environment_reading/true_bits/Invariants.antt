use Rattle.std.proofs.Common.{◌≡◌, ◌+◌}
use Rattle.clause_core.specs.Clauses.{assignment_of}
use Rattle.counterstrategy.specs.DualDecoding.{bits_passing}
use Rattle.counterstrategy.proofs.environment_reading.true_bits.Given as goal

abbrev pub invariant-loop-place : goal.invariant-loop-place
invariant-loop-place l = l.bits ≡ bits_passing (λ b. assignment_of l.truths (l.from + b)) l.place
