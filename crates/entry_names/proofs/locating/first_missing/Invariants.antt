use Rattle.std.proofs.Common.{◌≡◌, drop, map}
use Rattle.std.specs.List.{find}
use Rattle.entry_names.specs.Entries.{has_no_entry}
use Rattle.entry_names.proofs.locating.first_missing.Given as goal

-- the first one is still to come
abbrev pub invariant-loop-id : goal.invariant-loop-id
invariant-loop-id g l =
    find (has_no_entry l.names (map g.E.Named.subject l.entries)) l.needed
    ≡ find (has_no_entry l.names (map g.E.Named.subject l.entries)) (drop l.id-index l.needed)
