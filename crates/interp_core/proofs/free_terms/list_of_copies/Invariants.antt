use Rattle.std.proofs.Common.{◌≡◌, map, take}
use Rattle.interp_core.specs.FreeView.{free_tree}
use Rattle.interp_core.proofs.free_terms.list_of_copies.Given as goal

-- the copies of those so far
abbrev pub invariant-loop-free : goal.invariant-loop-free
invariant-loop-free l = map free_tree l.copies.items ≡ map free_tree (take l.free-index l.frees)
