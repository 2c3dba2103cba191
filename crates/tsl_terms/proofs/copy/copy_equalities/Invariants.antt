use Rattle.std.proofs.Common.{◌≡◌, map, take}
use Rattle.tsl_terms.specs.WindowTree.{equated_tree}
use Rattle.tsl_terms.proofs.copy.copy_equalities.Given as goal

-- the copies of those so far
abbrev pub invariant-loop-equality : goal.invariant-loop-equality
invariant-loop-equality l = map equated_tree l.copies.items ≡ map equated_tree (take l.equality-index l.equalities)
