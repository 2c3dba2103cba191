use Rattle.std.proofs.Common.{◌<◌, ◌^◌, map, Some, ap, ◌∙◌, arith}
use Rattle.std.specs.Prelude.{All}
use Rattle.table_interp.proofs.Rows.{of_row, row_pushed}
use Rattle.table_interp.proofs.inputs.all_ordered.Goals as goal

pub ordered-requires : goal.ordered-requires
ordered-requires c =
    rw c.deref.ensures.value
    (of_row (λ r. All (λ v. v < 2 ^ 32) r) c.args.rows.now c.loop-row.row-index c.row-item.result
    (omega (arith, c.loop-row-test.true)) c.row-item.is c.requires)

pub loop-row-preserved : goal.loop-row-preserved
loop-row-preserved c =
    rw c.in_ok-push.ensures.items
    (row_pushed c.args.order.now c.args.rows.now c.loop-row.row-index c.row-item.result c.loop-row.all.items c.from_vec.result
    (omega (arith, c.loop-row-test.true)) c.row-item.is
    (ap (map (λ v. Some v)) c.from_vec.ensures ∙ rw c.deref.ensures.value at c.in_ok-values.ensures) c.loop-row.invariant)
