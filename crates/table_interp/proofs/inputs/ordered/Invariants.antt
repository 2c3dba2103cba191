use Rattle.std.proofs.Common.{◌≡◌, map, take, Some}
use Rattle.std.specs.Prelude.{slice_get}
use Rattle.table_interp.proofs.inputs.ordered.Given as goal

abbrev pub invariant-loop-place : goal.invariant-loop-place
invariant-loop-place l = map (λ v. Some v) l.values.items ≡ map (slice_get l.row) (take l.place-index l.order)
