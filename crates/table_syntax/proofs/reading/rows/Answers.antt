use Rattle.std.proofs.Common.{ap, ◌∙◌}
use Rattle.std.specs.Prelude.{Some, option_map}
use Rattle.table_syntax.specs.internal.Reading.{row_member, numbers, rows}
use Rattle.table_syntax.proofs.Exactness.{rows_shrink}
use Rattle.table_syntax.proofs.ReadLoops.{still_kept, kept_to_end}
use Rattle.table_syntax.proofs.reading.rows.Goals as goal

pub loop-rest-preserved : goal.loop-rest-preserved
loop-rest-preserved c =
    still_kept (λ row. row.items) row_member rows_shrink _ c.loop-rest.invariant c.in_ok-push.ensures.items
    (ap (option_map numbers) c.in-Some.ensures.some ∙ ap (λ a. Some a) c.in_ok-row.ensures.ok)

pub returns : goal.returns
unfolding rows
returns c =
    kept_to_end (λ row. row.items) row_member rows_shrink _ c.loop-rest.invariant (ap (option_map numbers) c.in_default.ensures.none)
