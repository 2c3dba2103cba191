use Rattle.std.proofs.Common.{◌≡◌, ◌+◌, ◌<◌, ◌≤◌, ℕ, Bool, List, length, reverse, Some, slice_get}
use Rattle.full_bound.specs.declared.search.Step.{Step}
use Rattle.full_bound.specs.declared.search.Arrival.{Arrival}
use Rattle.full_bound.specs.internal.Search.{IsSearch}
use Rattle.full_bound.specs.internal.Turning.{IsSpelled}
use Rattle.full_bound.proofs.turning.way_to.Given as goal

abbrev pub invariant-loop-at : goal.invariant-loop-at
invariant-loop-at l =
    (l.at < length l.arrivals)
    × (length l.letters.items + l.at ≤ l.place)
    × ((steps : ℕ → List Step) (nodes : ℕ) (flags : List Bool) → IsSearch steps nodes flags l.arrivals → (a b : Arrival)
    → slice_get l.arrivals l.at ≡ Some a → slice_get l.arrivals l.place ≡ Some b → IsSpelled steps a.node b.node (reverse l.letters.items))

abbrev pub decreases-loop-at : goal.decreases-loop-at
decreases-loop-at l = l.at
