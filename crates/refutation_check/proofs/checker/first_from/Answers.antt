use Rattle.std.proofs.Common.{◌+◌, ◌-◌, ◌/◌, arith}
use Rattle.refutation_check.proofs.Naming.{below_through, above_from}
use Rattle.refutation_check.proofs.checker.first_from.Goals as goal

pub loop-low-preserved-then-accepted-middle : goal.loop-low-preserved-then-accepted-middle
loop-low-preserved-then-accepted-middle c =
    let middle = c.loop-low.low + (c.loop-low.high - c.loop-low.low) / 2 in
    record {
      order = omega arith;
      within = c.loop-low.invariant.within;
      below = below_through c.args.accepted.now c.args.number middle c.index-accepted-middle.result c.requires
          (omega (arith, c.loop-low.invariant.within)) c.if-accepted-middle.true;
      above = c.loop-low.invariant.above;
    }

pub loop-low-preserved : goal.loop-low-preserved
loop-low-preserved c =
    let middle = c.loop-low.low + (c.loop-low.high - c.loop-low.low) / 2 in
    record {
      order = omega arith;
      within = omega (arith, c.loop-low.invariant.within);
      below = c.loop-low.invariant.below;
      above = above_from c.args.accepted.now c.args.number middle c.index-accepted-middle.result c.requires
          (omega (arith, c.loop-low.invariant.within)) c.if-accepted-middle.false;
    }
