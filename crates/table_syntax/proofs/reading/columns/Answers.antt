use Rattle.std.proofs.Common.{ap, ◌∙◌}
use Rattle.std.specs.Prelude.{Some, option_map}
use Rattle.base_library.proofs.Results.{handed_on}
use Rattle.reader_combinators.specs.Readers.{taking}
use Rattle.table_syntax.specs.internal.Reading.{column_member, name_at, columns}
use Rattle.table_syntax.specs.View.{text_token_view}
use Rattle.table_syntax.proofs.Exactness.{columns_shrink}
use Rattle.table_syntax.proofs.ReadLoops.{still_kept, kept_to_end, kept_fault}
use Rattle.table_syntax.proofs.reading.columns.Goals as goal

pub returns-in_err-column-clause-fault : goal.returns-in_err-column-clause-fault
unfolding columns
returns-in_err-column-clause-fault c =
    handed_on _ _ _ c.from_residual.ensures.1 (kept_fault text_token_view column_member columns_shrink _ c.loop-rest.invariant _ _
    (ap (option_map (taking name_at)) c.in-Some.ensures.some) c.in_err-column.ensures.fault)

pub loop-rest-preserved : goal.loop-rest-preserved
loop-rest-preserved c =
    still_kept text_token_view column_member columns_shrink _ c.loop-rest.invariant c.in_ok-push.ensures.items
    (ap (option_map (taking name_at)) c.in-Some.ensures.some ∙ ap (λ a. Some a) c.in_ok-column.ensures.ok)

pub returns-clause-ok : goal.returns-clause-ok
unfolding columns
returns-clause-ok c =
    kept_to_end text_token_view column_member columns_shrink _ c.loop-rest.invariant
    (ap (option_map (taking name_at)) c.in_default.ensures.none)
