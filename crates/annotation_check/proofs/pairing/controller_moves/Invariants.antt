use Rattle.std.proofs.Common.{◌≡◌, map}
use Rattle.base_library.specs.Numbers.{numbers_from}
use Rattle.letter_space.specs.SpaceView.{space_tree}
use Rattle.machines.specs.MachineView.{controller_tree}
use Rattle.machines.specs.Moves.{controller_moves}
use Rattle.annotation_check.specs.internal.Pairs.{move_lists}
use Rattle.annotation_check.proofs.pairing.controller_moves.Given as goal

abbrev pub invariant-loop-state : goal.invariant-loop-state
invariant-loop-state l =
    move_lists l.table.items ≡ map (controller_moves (space_tree l.space) (controller_tree l.controller)) (numbers_from 0 l.state)
