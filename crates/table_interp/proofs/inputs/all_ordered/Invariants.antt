use Rattle.std.proofs.Common.{◌≡◌, map, take, Some}
use Rattle.std.specs.Prelude.{slice_get}
use Rattle.table_syntax.specs.View.{numbers_view}
use Rattle.table_interp.proofs.inputs.all_ordered.Given as goal

abbrev pub invariant-loop-row : goal.invariant-loop-row
invariant-loop-row l =
    map (λ r. map (λ v. Some v) r) l.all.items ≡ map (λ r. map (slice_get r) l.order) (numbers_view (take l.row-index l.rows))
