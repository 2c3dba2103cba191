use Rattle.std.proofs.Common.{arith}
use Rattle.obligations.specs.internal.Antichains.{gathered, mark}
use Rattle.obligations.proofs.CaresLemmas.{numbers_step, numbers_end}
use Rattle.obligations.proofs.apart.marks_of_numbers.Goals as goal

pub loop-number-preserved : goal.loop-number-preserved
loop-number-preserved c =
    numbers_step c.args.numbers.now c.loop-number.number-index c.loop-number.all c.mark-all.result (gathered mark c.args.numbers.now)
    (omega (arith, c.loop-number-test.true)) c.mark-all.ensures c.loop-number.invariant

pub returns : goal.returns
returns c = numbers_end c.args.numbers.now c.loop-number.number-index c.loop-number.all (gathered mark c.args.numbers.now)
    (omega (arith, c.loop-number-test.false)) c.loop-number.invariant
