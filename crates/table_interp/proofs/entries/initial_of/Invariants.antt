use Rattle.std.proofs.Common.{◌≡◌, ◌∷◌, [], map, take, Some}
use Rattle.base_library.specs.Options.{all_there}
use Rattle.table_interp.specs.Tables.{numbers_for}
use Rattle.table_interp.specs.internal.Located.{located_tables}
use Rattle.table_interp.proofs.entries.initial_of.Given as goal

abbrev pub invariant-loop-cell : goal.invariant-loop-cell
invariant-loop-cell l =
    all_there (map (numbers_for l.given.names.now (located_tables l.given).entries) (take l.cell-index l.cells))
    ≡ Some (map (λ v. v ∷ []) l.initial'.items)
