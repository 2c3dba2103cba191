use Rattle.std.proofs.Common.{◌≡◌, take}
use Rattle.tsl_terms.proofs.names.Names.copy.Given as goal

-- the names so far
abbrev pub invariant-loop-id : goal.invariant-loop-id
invariant-loop-id l = l.names ≡ take l.id l.self
