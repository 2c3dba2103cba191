use Rattle.std.proofs.Common.{◌+◌}
use Rattle.clause_core.specs.Clauses.{assignment_of}
use Rattle.bounded_encoding.proofs.Firsts.{first_later}
use Rattle.bounded_encoding.proofs.reading.first_true.Goals as goal

pub loop-place-preserved : goal.loop-place-preserved
loop-place-preserved c =
    first_later (λ k. assignment_of c.args.truths.now (c.args.from + k)) _ _ _ c.loop-place-test.true c.if-truths-from.false
    c.loop-place.invariant
