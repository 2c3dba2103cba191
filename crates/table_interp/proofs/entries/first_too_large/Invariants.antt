use Rattle.std.proofs.Common.{◌≡◌, drop}
use Rattle.std.specs.Prelude.{is_some}
use Rattle.std.specs.List.{find}
use Rattle.table_interp.specs.Tables.{too_large}
use Rattle.table_interp.specs.internal.Located.{located_tables}
use Rattle.table_interp.proofs.entries.first_too_large.Given as goal

-- the first one is still to come
abbrev pub invariant-loop-id : goal.invariant-loop-id
invariant-loop-id l =
    find (λ id. is_some (too_large l.given.names.now (located_tables l.given) id)) l.needed
    ≡ find (λ id. is_some (too_large l.given.names.now (located_tables l.given) id)) (drop l.id-index l.needed)
