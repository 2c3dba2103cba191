use Rattle.std.proofs.Common.{◌≡◌, ◌++◌, map, take}
use Rattle.tsl_terms.specs.WindowTree.{listed_tree}
use Rattle.branch_finder.proofs.thinning.add_copies.Given as goal

-- those gone through are added
abbrev pub invariant-loop-update : goal.invariant-loop-update
invariant-loop-update l =
    map listed_tree l.copies.items ≡ map listed_tree l.fn.copies.items ++ map listed_tree (take l.update-index l.updates)
