use Rattle.std.proofs.Common.{◌≡◌, ◌++◌, map, drop}
use Rattle.tsl_terms.specs.WindowTree.{equated_tree}
use Rattle.letter_space.specs.SpaceView.{space_tree}
use Rattle.branch_finder.specs.internal.Paths.{equalities_along}
use Rattle.branch_finder.proofs.listing.equalities_along.Given as goal

-- what is added and what is still to come make the whole
abbrev pub invariant-loop-offset : goal.invariant-loop-offset
invariant-loop-offset l =
    map equated_tree l.equalities.items ++ equalities_along (space_tree l.space).predicates l.offset (drop l.offset l.prints)
    ≡ equalities_along (space_tree l.space).predicates 0 l.prints
