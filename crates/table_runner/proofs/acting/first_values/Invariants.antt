use Rattle.std.proofs.Common.{map}
use Rattle.table_runner.proofs.Gathering.{and_then_all, IsGathered}
use Rattle.table_runner.proofs.acting.first_values.Given as goal

abbrev pub invariant-loop-cell : goal.invariant-loop-cell
invariant-loop-cell g l =
    IsGathered (g.A.Algebra.meanings l.algebra).initial l.cells
    (and_then_all (map g.A.Algebra.seen l.row) (map (g.A.Algebra.meanings l.algebra).initial l.cells))
    l.cell-index (map g.A.Algebra.seen l.values.items)
