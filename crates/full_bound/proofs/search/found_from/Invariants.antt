use Rattle.std.proofs.Common.{◌≡◌, ◌*◌, ◌-◌, ◌≤◌, length, slice_get, Some}
use Rattle.full_bound.specs.declared.search.Arrival.{Arrival}
use Rattle.full_bound.specs.internal.Search.{steps_from, IsSearch, IsVisited, search_left}
use Rattle.full_bound.proofs.search.found_from.Given as goal

abbrev pub invariant-loop-place : goal.invariant-loop-place
invariant-loop-place l =
    IsSearch (steps_from l.table) (length l.table) l.search.flags.items l.search.arrivals.items
    × IsVisited (steps_from l.table) (length l.table) l.search.flags.items l.search.arrivals.items l.place
    × (search_left l.search.flags.items l.search.arrivals.items ≤ 2 * length l.table)
    × ((a : Arrival) × (slice_get l.search.arrivals.items 0 ≡ Some a) × (a.node ≡ l.from))

abbrev pub decreases-loop-place : goal.decreases-loop-place
decreases-loop-place l = search_left l.search.flags.items l.search.arrivals.items - l.place
