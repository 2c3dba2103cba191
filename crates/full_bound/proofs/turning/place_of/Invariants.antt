use Rattle.std.proofs.Common.{◌≡◌, ◌<◌, ℕ, Some, slice_get}
use Rattle.full_bound.specs.declared.search.Arrival.{Arrival}
use Rattle.full_bound.proofs.turning.place_of.Given as goal

abbrev pub invariant-loop-place : goal.invariant-loop-place
invariant-loop-place l = (i : ℕ) (a : Arrival) → i < l.place → slice_get l.arrivals i ≡ Some a → a.node ≡ l.node → ⊥
