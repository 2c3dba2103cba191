use Rattle.std.proofs.Common.{below_more, arith}
use Rattle.tsl_terms.specs.Clashes.{alike_in}
use Rattle.tsl_terms.proofs.FirstUses.{clash_at, no_clash_at, clash_within}
use Rattle.tsl_terms.proofs.clash.first_clash.Goals as goal

pub returns-then-differs : goal.returns-then-differs
returns-then-differs c = record {
  clash = clash_at (alike_in c.args.quality) c.args.firsts.now c.args.uses.now c.loop-place.place _ c.differs.result c.requires
      c.loop-place-test.true
      c.differs.ensures c.if-differs.true;
  none_before = c.loop-place.invariant;
}

pub loop-place-preserved : goal.loop-place-preserved
loop-place-preserved c =
    below_more _ _ c.loop-place.invariant
    (no_clash_at (alike_in c.args.quality) c.args.firsts.now c.args.uses.now c.loop-place.place _ c.differs.result c.requires
    c.loop-place-test.true
    c.differs.ensures c.if-differs.false)

pub returns : goal.returns
returns c = λ at clash.
    let within = clash_within (alike_in c.args.quality) c.args.uses.now at clash in
    c.loop-place.invariant at (omega (arith, within, c.loop-place-test.false)) clash
