use Rattle.std.proofs.Common.{◌≡◌, map, Some}
use Rattle.base_library.specs.Numbers.{numbers_from}
use Rattle.base_library.specs.Options.{all_there}
use Rattle.table_interp.specs.Tables.{table_of}
use Rattle.table_interp.specs.internal.Located.{located_tables}
use Rattle.table_interp.proofs.entries.tables_of.Given as goal

abbrev pub invariant-loop-id : goal.invariant-loop-id
invariant-loop-id l =
    all_there (map (table_of l.given.names.now (located_tables l.given).entries) (numbers_from 0 l.id)) ≡ Some l.tables.items
