use Rattle.std.proofs.Common.{refl, arith}
use Rattle.std.proofs.lemmas.Nat.{trailing_le}
use Rattle.lane_planes.specs.Planes.{word_at}
use Rattle.lane_planes.proofs.BitLemmas.{first_is}
use Rattle.clause_learning.proofs.NumberBits.{word_within}
use Rattle.clause_learning.proofs.numbers.least_in.Goals as goal

pub overflow_add-result : goal.overflow_add-result
overflow_add-result c = omega (
  arith,
  trailing_le 64 (word_at c.args.plane.now c.args.word),
  word_within c.args.plane.now c.args.word c.requires.first.some,
  c.requires.few,
)

pub returns : goal.returns
returns c = let r = first_is c.args.plane.now c.args.word _ refl c.requires.first.some (c.type_inv.plane c.args.word).fits c.requires.first.none_before in
    record { here = r.0; none_before = r.1 }
