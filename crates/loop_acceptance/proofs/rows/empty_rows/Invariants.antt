use Rattle.std.proofs.Common.{◌≡◌, [], length}
use Rattle.std.specs.List.{AllByRecursion}
use Rattle.loop_acceptance.specs.internal.Product.{row_lists}
use Rattle.loop_acceptance.proofs.rows.empty_rows.Given as goal

abbrev pub invariant-loop-state : goal.invariant-loop-state
invariant-loop-state l = (length l.rows.items ≡ l._state) × AllByRecursion (λ row. row ≡ []) (row_lists l.rows.items)
