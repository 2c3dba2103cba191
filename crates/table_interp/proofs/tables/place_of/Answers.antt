use Rattle.std.proofs.Common.{arith}
use Rattle.table_interp.proofs.Lookups.{step_fits}
use Rattle.table_interp.proofs.tables.place_of.Goals as goal

pub overflow_mul-place : goal.overflow_mul-place
overflow_mul-place c =
    let place = c.loop-argument.argument-index in
    omega (arith, step_fits _ _ place 0 _ (omega arith) (omega (arith, c.if-argument-domain.false)) c.loop-argument.invariant c.requires)

pub overflow_add-place : goal.overflow_add-place
overflow_add-place c =
    let place = c.loop-argument.argument-index in
    omega (arith, step_fits _ _ place 0 _ (omega arith) (omega (arith, c.if-argument-domain.false)) c.loop-argument.invariant c.requires)
