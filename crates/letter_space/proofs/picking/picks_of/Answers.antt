use Rattle.std.proofs.Common.{◌/◌, arith}
use Rattle.std.proofs.Math.Nat.{mod-lt, mod-le, div-le_self}
use Rattle.letter_space.proofs.PicksLeft.{left_next, picked_turn}
use Rattle.letter_space.proofs.picking.picks_of.Goals as goal

pub overflow_cast-rest : goal.overflow_cast-rest
overflow_cast-rest c =
    let quotient = div-le_self c.loop-signal.rest (c.loop-signal.left / c.len.result) in
    omega (arith, quotient, c.loop-signal.invariant.2)

pub loop-signal-preserved : goal.loop-signal-preserved
loop-signal-preserved c =
    let next = left_next c.args.signals.now c.loop-signal.signal-index c.loop-signal.left c.loop-signal.rest c.len.result
    c.signal-item.result c.loop-signal-test.true c.signal-item.is c.loop-signal.invariant.0 c.len.ensures c.loop-signal.invariant.1 in
    let smaller = mod-le c.loop-signal.rest (c.loop-signal.left / c.len.result) in (
      next.0,
      mod-lt c.loop-signal.rest next.1,
      omega (arith, smaller, c.loop-signal.invariant.2),
      picked_turn c.args.signals.now _ _ _ c.loop-signal.signal-index c.loop-signal.rest (c.loop-signal.left / c.len.result)
          c.signal-item.result c.loop-signal-test.true c.signal-item.is next.0 c.loop-signal.invariant.3 c.in_ok-push.ensures.items,
    )
