use Rattle.table_interp.proofs.Facts.{small_table, cells_one}
use Rattle.entry_names.proofs.NeededNames.{cells_within}
use Rattle.table_interp.proofs.entries.tables_from.Goals as goal

pub tables_of-requires-clause-small : goal.tables_of-requires-clause-small
tables_of-requires-clause-small c =
    small_table c.args.names.now c.args.cells.now _ (cells_within c.args.names.now c.args.cells.now c.requires.cells)
    c.in_ok-check_entries.ensures.ok c.requires.few

pub initial_of-requires-clause-one : goal.initial_of-requires-clause-one
initial_of-requires-clause-one c =
    cells_one c.args.names.now c.args.cells.now _ (cells_within c.args.names.now c.args.cells.now c.requires.cells)
    c.in_ok-check_entries.ensures.ok c.requires.few c.requires.cells
