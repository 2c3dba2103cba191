use Rattle.std.proofs.Common.{◌≡◌, ◌<◌, ℕ, Some, slice_get}
use Rattle.std.specs.List.{AllByRecursion}
use Rattle.full_bound.specs.declared.search.Arrival.{Arrival}
use Rattle.full_bound.specs.internal.Search.{steps_from}
use Rattle.full_bound.specs.internal.Turning.{NeverBack}
use Rattle.full_bound.proofs.turning.turn_in.Given as goal

abbrev pub invariant-loop-place : goal.invariant-loop-place
invariant-loop-place l =
    (i : ℕ) (a : Arrival) → i < l.place → slice_get l.first.arrivals.items i ≡ Some a
    → AllByRecursion (NeverBack (steps_from l.table) a.node) (steps_from l.table a.node)
