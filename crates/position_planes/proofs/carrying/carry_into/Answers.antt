use Rattle.std.proofs.Common.{arith}
use Rattle.position_planes.proofs.WordLemmas.{word_carried}
use Rattle.position_planes.proofs.carrying.carry_into.Goals as goal

pub loop-at-preserved : goal.loop-at-preserved
loop-at-preserved c = word_carried c.args.left.now c.args.right.now c.loop-at.left c.args.carried c.loop-at.at c.loop-at.carry
    c.carries-word.result
    (omega (arith, c.loop-at-test.true, c.loop-at.invariant.size)) c.carries-word.type_inv c.loop-at.invariant c.carries-word.ensures
