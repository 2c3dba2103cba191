use Rattle.std.proofs.Common.{arith, refl, ◌*◌, ◌+◌}
use Rattle.std.specs.Int.{trailing_zeros}
use Rattle.std.proofs.Common.{w64}
use Rattle.lane_planes.specs.Planes.{word_at}
use Rattle.lane_planes.proofs.BitLemmas.{first_is}
use Rattle.lane_planes.proofs.searching.any_bit.Goals as goal

pub returns-then-word-ne0 : goal.returns-then-word-ne0
returns-then-word-ne0 c =
    let n = trailing_zeros w64 (word_at c.args.plane.now c.loop-word.word-index) in (
      c.loop-word.word-index * 64 + n,
      (first_is c.args.plane.now c.loop-word.word-index n refl (omega (arith, c.if-word-ne0.true)) (c.type_inv.plane
          c.loop-word.word-index).fits
          c.loop-word.invariant).0,
    )
