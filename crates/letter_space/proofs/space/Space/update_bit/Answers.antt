use Rattle.std.proofs.Common.{arith}
use Rattle.letter_space.proofs.Bounds.{item_bits}
use Rattle.letter_space.proofs.space.Space.update_bit.Goals as goal

pub bit_of-requires : goal.bit_of-requires
bit_of-requires c =
    omega (
      arith,
      item_bits c.args.self.now.predicates c.as_slice-controlled-items.result.now c.loop-controlled.controlled-index
          c.controlled-item.result (rw c.as_slice-controlled-items.ensures c.args.self.now.is_space)
          c.loop-controlled-test.true c.controlled-item.is,
    )
