use Rattle.bounded_encoding.specs.ClauseLists.{each}
use Rattle.bounded_encoding.specs.Grids.{falling_in_row, falling_in_each}
use Rattle.bounded_encoding.proofs.Begun.{LeadsOn}
use Rattle.bounded_encoding.proofs.grid.add_falling_in_each.Given as goal

abbrev pub invariant-loop-row : goal.invariant-loop-row
invariant-loop-row l =
    LeadsOn l.out (each l.row l.grid.rows
    (falling_in_row l.grid l.bound)) l.fn.out
    (falling_in_each l.grid l.bound)
