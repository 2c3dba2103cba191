use Rattle.std.proofs.Common.{◌≡◌, ◌++◌, map, drop}
use Rattle.std.specs.Prelude.{flat_map}
use Rattle.tsl_terms.specs.Clashes.{name_use}
use Rattle.tsl_reader.specs.Naming.{named_by}
use Rattle.tsl_reader.specs.UseView.{read_use}
use Rattle.tsl_reader.proofs.naming.numbered_names.Given as goal

-- the names so far, and then those of the uses that are left
abbrev pub invariant-loop-usage : goal.invariant-loop-usage
invariant-loop-usage l =
    map name_use l.list.items ++ flat_map named_by (map read_use (drop l.usage-index l.uses)) ≡ flat_map named_by (map read_use l.uses)
