use Rattle.bounded_encoding.specs.ClauseLists.{each}
use Rattle.bounded_encoding.specs.Grids.{one_in_row, one_in_each}
use Rattle.bounded_encoding.proofs.Begun.{LeadsOn}
use Rattle.bounded_encoding.proofs.grid.add_one_in_each.Given as goal

abbrev pub invariant-loop-row : goal.invariant-loop-row
invariant-loop-row l =
    LeadsOn l.out (each l.row l.grid.rows
    (one_in_row l.grid)) l.fn.out
    (one_in_each l.grid)
