use Rattle.std.proofs.Common.{◌∙◌, Some, ap, option_map, sym}
use Rattle.interp_core.specs.LeafValue.{leaf_value}
use Rattle.interp_core.proofs.Besides.{beside-map}
use Rattle.base_library.proofs.Lists.{alike_more}
use Rattle.tsl_meaning.proofs.columns.column_of.Goals as goal

pub loop-row-preserved : goal.loop-row-preserved
loop-row-preserved g c =
    alike_more (λ v. Some (g.J.Algebra.seen v)) (λ r. leaf_value g.J.Algebra.seen r c.args.signal) c.loop-row.values.items _
    c.in_ok-copy-in-Some.field-0 c.args.leaves.now c.loop-row.row-index c.row-item.result c.loop-row-test.true c.row-item.is
    c.loop-row.invariant
    (ap Some c.in_ok-copy-in-Some.ensures ∙ ap (option_map g.J.Algebra.seen) (rw c.in-Some.is at c.value_of.ensures)
    ∙ sym (beside-map g.J.Algebra.seen c.args.signal c.row-item.result.signals c.row-item.result.values))
    c.in_ok-push-in-Some.ensures.items
