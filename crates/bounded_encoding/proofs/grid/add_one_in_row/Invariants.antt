use Rattle.bounded_encoding.specs.ClauseLists.{each}
use Rattle.bounded_encoding.specs.SimpleClauses.{exactly_one}
use Rattle.bounded_encoding.specs.Grids.{cell_index, one_in_row}
use Rattle.bounded_encoding.proofs.Begun.{LeadsOn}
use Rattle.bounded_encoding.proofs.grid.add_one_in_row.Given as goal

abbrev pub invariant-loop-column : goal.invariant-loop-column
invariant-loop-column l =
    LeadsOn l.out (each l.column l.grid.columns
    (λ column. exactly_one (cell_index l.grid l.row column) 0 l.grid.width)) l.fn.out
    (one_in_row l.grid l.row)
