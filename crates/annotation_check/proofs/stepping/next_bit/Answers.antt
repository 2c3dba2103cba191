use Rattle.std.proofs.Common.{◌/◌, arith}
use Rattle.annotation_check.proofs.NextBits.{set_here, none_before, none_until, none_left}
use Rattle.annotation_check.proofs.stepping.next_bit.Goals as goal

pub returns-then-here-ne0-clause-some : goal.returns-then-here-ne0-clause-some
returns-then-here-ne0-clause-some c = (
  omega arith,
  set_here c.args.plane.now c.args.from (omega (arith, c.if-here-ne0.true)) (c.type_inv.plane (c.args.from / 64)).fits,
)

pub returns-then-here-ne0-clause-first : goal.returns-then-here-ne0-clause-first
returns-then-here-ne0-clause-first c =
    none_before c.args.plane.now c.args.from (omega (arith, c.if-here-ne0.true)) (c.type_inv.plane (c.args.from / 64)).fits

pub returns-in-Some-clause-first : goal.returns-in-Some-clause-first
returns-in-Some-clause-first c = none_until c.args.plane.now c.args.from (omega (arith, c.if-here-ne0.false)) c.in-Some.bit c.in-Some.ensures.some.1

pub returns-in-None-clause-none : goal.returns-in-None-clause-none
returns-in-None-clause-none c = none_left c.args.plane.now c.args.from (omega (arith, c.if-here-ne0.false)) c.in-None.ensures.none
