use Rattle.std.proofs.Common.{◌≡◌, drop}
use Rattle.letter_space.specs.SpaceView.{space_tree}
use Rattle.branch_finder.specs.internal.Sets.{with_updates}
use Rattle.branch_finder.proofs.sets.set_picked.Given as goal

-- what is added and what is still to come make the whole
abbrev pub invariant-loop-cell : goal.invariant-loop-cell
invariant-loop-cell l =
    with_updates (space_tree l.space) l.picks l.set (drop l.cell-index l.cells) ≡ with_updates (space_tree l.space) l.picks 0 l.cells
