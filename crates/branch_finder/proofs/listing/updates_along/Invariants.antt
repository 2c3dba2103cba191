use Rattle.std.proofs.Common.{◌≡◌, ◌++◌, map, drop}
use Rattle.tsl_terms.specs.WindowTree.{listed_tree}
use Rattle.letter_space.specs.SpaceView.{space_tree}
use Rattle.branch_finder.specs.internal.Paths.{updates_along}
use Rattle.branch_finder.proofs.listing.updates_along.Given as goal

-- what is added and what is still to come make the whole
abbrev pub invariant-loop-offset : goal.invariant-loop-offset
invariant-loop-offset l =
    map listed_tree l.updates.items ++ updates_along (space_tree l.space).controlled l.cells l.offset (drop l.offset l.path)
    ≡ updates_along (space_tree l.space).controlled l.cells 0 l.path
