use Rattle.std.proofs.Common.{◌≡◌, ◌++◌, map, drop}
use Rattle.tsl_terms.specs.WindowTree.{listed_tree}
use Rattle.letter_space.specs.ControlledView.{controlled_tree}
use Rattle.branch_finder.specs.internal.Paths.{updates_picked}
use Rattle.branch_finder.proofs.listing.add_updates.Given as goal

-- what is added and what is still to come make the whole
abbrev pub invariant-loop-cell : goal.invariant-loop-cell
invariant-loop-cell l =
    map listed_tree l.updates.items ++ updates_picked (map controlled_tree l.controlled) l.picks l.offset (drop l.cell-index l.cells)
    ≡ map listed_tree l.fn.updates.items ++ updates_picked (map controlled_tree l.controlled) l.picks l.offset l.cells
