use Rattle.bounded_encoding.specs.ClauseLists.{each}
use Rattle.bounded_encoding.specs.SimpleClauses.{falling}
use Rattle.bounded_encoding.specs.Grids.{cell_index, falling_in_row}
use Rattle.bounded_encoding.proofs.Begun.{LeadsOn}
use Rattle.bounded_encoding.proofs.grid.add_falling_in_row.Given as goal

abbrev pub invariant-loop-column : goal.invariant-loop-column
invariant-loop-column l =
    LeadsOn l.out (each l.column l.grid.columns
    (λ column. falling (cell_index l.grid l.row column) l.bound)) l.fn.out
    (falling_in_row l.grid l.bound l.row)
