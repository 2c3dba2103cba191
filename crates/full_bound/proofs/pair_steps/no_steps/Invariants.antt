use Rattle.std.proofs.Common.{◌≡◌, ℕ, [], length}
use Rattle.full_bound.specs.internal.Search.{steps_from}
use Rattle.full_bound.proofs.pair_steps.no_steps.Given as goal

abbrev pub invariant-loop-pair : goal.invariant-loop-pair
invariant-loop-pair l = (length l.table.items ≡ l._pair) × ((p : ℕ) → steps_from l.table.items p ≡ [])
