use Rattle.std.proofs.Common.{◌≡◌, ◌++◌, map, take}
use Rattle.tsl_terms.specs.WindowTree.{equated_tree}
use Rattle.branch_finder.proofs.thinning.add_equal_copies.Given as goal

-- those gone through are added
abbrev pub invariant-loop-equality : goal.invariant-loop-equality
invariant-loop-equality l =
    map equated_tree l.copies.items ≡ map equated_tree l.fn.copies.items ++ map equated_tree (take l.equality-index l.equalities)
