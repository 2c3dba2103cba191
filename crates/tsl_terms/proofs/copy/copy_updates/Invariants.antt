use Rattle.std.proofs.Common.{◌≡◌, map, take}
use Rattle.tsl_terms.specs.WindowTree.{listed_tree}
use Rattle.tsl_terms.proofs.copy.copy_updates.Given as goal

-- the copies of those so far
abbrev pub invariant-loop-update : goal.invariant-loop-update
invariant-loop-update l = map listed_tree l.copies.items ≡ map listed_tree (take l.update-index l.updates)
