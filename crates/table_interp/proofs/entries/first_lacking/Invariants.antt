use Rattle.std.proofs.Common.{◌≡◌, drop}
use Rattle.std.specs.List.{find}
use Rattle.table_interp.specs.internal.Lacks.{lacks}
use Rattle.table_interp.specs.internal.Located.{located_tables}
use Rattle.table_interp.proofs.entries.first_lacking.Given as goal

-- the first one is still to come
abbrev pub invariant-loop-id : goal.invariant-loop-id
invariant-loop-id l =
    find (lacks l.lack l.given.names.now (located_tables l.given)) l.needed
    ≡ find (lacks l.lack l.given.names.now (located_tables l.given)) (drop l.id-index l.needed)
