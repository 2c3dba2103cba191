use Rattle.std.proofs.Common.{sym, ap, ◌∙◌, arith}
use Rattle.table_interp.specs.internal.Rules.{breaks}
use Rattle.table_interp.proofs.Rows.{none_more}
use Rattle.table_interp.proofs.inputs.first_breaking.Goals as goal

pub loop-place-preserved : goal.loop-place-preserved
loop-place-preserved c =
    none_more (breaks c.args.rule) c.args.rows.now c.loop-place.place c.index-rows-place.result (omega (arith, c.loop-place-test.true))
    c.index-rows-place.is (sym (c.breaks.ensures ∙ ap (breaks c.args.rule) c.deref.ensures.value) ∙ c.if-breaks.false)
    c.loop-place.invariant
