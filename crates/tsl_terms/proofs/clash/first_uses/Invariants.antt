use Rattle.std.proofs.Common.{◌≡◌, map, drop}
use Rattle.tsl_terms.specs.Clashes.{name_use, with_uses, first_uses}
use Rattle.tsl_terms.proofs.clash.first_uses.Given as goal

-- the names so far, and then those of the uses that are left
abbrev pub invariant-loop-usage : goal.invariant-loop-usage
invariant-loop-usage l = with_uses l.names (map name_use (drop l.usage-index l.uses)) ≡ first_uses (map name_use l.uses)
