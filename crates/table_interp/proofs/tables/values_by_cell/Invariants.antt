use Rattle.std.proofs.Common.{◌≡◌, map, take}
use Rattle.table_interp.proofs.tables.values_by_cell.Given as goal

abbrev pub invariant-loop-place : goal.invariant-loop-place
invariant-loop-place l =
    (map (λ e. e.0) l.values.entries ≡ take l.place l.cells) × (map (λ e. e.1) l.values.entries ≡ take l.place l.initial')
