-- The updates so far and those of the signals that are left.
use Rattle.std.proofs.Common.{◌≡◌, ◌+◌, map, drop}
use Rattle.letter_space.specs.ControlledView.{controlled_tree}
use Rattle.letter_space.specs.SpaceTree.{choice_count}
use Rattle.letter_space.specs.SpaceView.{space_tree}
use Rattle.controller_circuits.proofs.tables.update_count.Given as goal

abbrev pub invariant-loop-controlled : goal.invariant-loop-controlled
invariant-loop-controlled l =
    l.count + choice_count (map controlled_tree (drop l.controlled-index l.space.controlled)) ≡ choice_count
    (space_tree l.space).controlled
