use Rattle.std.proofs.Common.{Some, ap, sym, ◌∙◌}
use Rattle.base_library.proofs.Gathered.{gather_number}
use Rattle.table_interp.specs.Tables.{table_of}
use Rattle.table_interp.specs.internal.Located.{located_tables}
use Rattle.table_interp.proofs.entries.tables_of.Goals as goal

pub loop-id-preserved : goal.loop-id-preserved
loop-id-preserved c =
    rw c.in_ok-push.ensures.items
    (gather_number (table_of c.args.given.now.names.now (located_tables c.args.given.now).entries) c.loop-id.id c.loop-id.tables.items
    c.from_vec.result (c.in_ok-table.ensures ∙ ap (λ t. Some t) (sym c.from_vec.ensures)) c.loop-id.invariant)
