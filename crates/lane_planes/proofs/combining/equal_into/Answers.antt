use Rattle.std.proofs.Common.{arith}
use Rattle.lane_planes.proofs.BitLemmas.{same_bits}
use Rattle.lane_planes.proofs.combining.equal_into.Goals as goal

pub returns : goal.returns
returns c = same_bits c.loop-at.at c.args.out.now c.args.other.now c.loop-at.out
    (omega (arith, c.loop-at.invariant.0, c.loop-at.invariant.1, c.loop-at-test.false)) c.loop-at.invariant.2 c.type_inv.other
    c.loop-at.invariant.3
