use Rattle.std.proofs.Common.{◌+◌}
use Rattle.clause_core.specs.Clauses.{assignment_of}
use Rattle.bounded_encoding.proofs.Firsts.{run_goes_on}
use Rattle.bounded_encoding.proofs.reading.true_run.Goals as goal

pub loop-number-preserved : goal.loop-number-preserved
loop-number-preserved c =
    run_goes_on (λ k. assignment_of c.args.truths.now (c.args.from + k)) _ _ _ c.loop-number-test.true c.if-not-truths-from.false
    c.loop-number.invariant
