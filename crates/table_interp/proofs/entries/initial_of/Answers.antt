use Rattle.std.proofs.Common.{arith}
use Rattle.table_interp.specs.Tables.{numbers_for}
use Rattle.table_interp.specs.internal.Located.{located_tables}
use Rattle.table_interp.proofs.Growing.{gather_single}
use Rattle.table_interp.proofs.entries.initial_of.Goals as goal

pub loop-cell-preserved : goal.loop-cell-preserved
loop-cell-preserved c =
    rw c.in_ok-push.ensures.items
    (gather_single (numbers_for c.args.given.now.names.now (located_tables c.args.given.now).entries) c.args.cells.now
    c.loop-cell.cell-index 0
    c.loop-cell.initial'.items c.value_of.result (omega (arith, c.loop-cell-test.true)) c.value_of.ensures c.loop-cell.invariant)
