use Rattle.std.proofs.Common.{◌≡◌, length, take, slice_get, Some, true}
use Rattle.std.specs.List.{AllByRecursion}
use Rattle.full_bound.specs.internal.Search.{steps_from, GoesOn}
use Rattle.full_bound.proofs.search.visit.Given as goal

abbrev pub invariant-loop-step : goal.invariant-loop-step
invariant-loop-step l =
    GoesOn (steps_from l.table) (length l.table) l.fn.search.flags.items l.fn.search.arrivals.items l.search.flags.items
    l.search.arrivals.items
    × AllByRecursion (λ s. slice_get l.search.flags.items s.to ≡ Some true) (take l.step-index l.steps)
