use Rattle.std.proofs.Common.{arith}
use Rattle.lane_planes.proofs.BitLemmas.{first_is}
use Rattle.lane_planes.proofs.searching.first_bit.Goals as goal

pub returns-then-plane-at-ne0-clause-some : goal.returns-then-plane-at-ne0-clause-some
returns-then-plane-at-ne0-clause-some c =
    first_is c.args.plane.now c.loop-at.at c.from.result c.from.ensures (omega (arith, c.if-plane-at-ne0.true)) (c.type_inv.plane
    c.loop-at.at).fits
    c.loop-at.invariant
