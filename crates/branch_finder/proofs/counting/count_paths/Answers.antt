use Rattle.std.proofs.Common.{◌+◌, arith}
use Rattle.branch_finder.proofs.Paths.{powers_grow, power_more}
use Rattle.branch_finder.proofs.counting.count_paths.Goals as goal

pub overflow_mul-count : goal.overflow_mul-count
overflow_mul-count c =
    let more = power_more c.args.vectors c.loop.count c.loop.counter c.loop.invariant in
    let grow = powers_grow c.args.vectors (c.loop.counter + 1) c.args.steps c.requires.some (omega (arith, c.loop-test.true)) in
    omega (arith, more, grow, c.requires.few)
