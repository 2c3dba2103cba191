use Rattle.std.proofs.Common.{◌≡◌, map}
use Rattle.base_library.specs.Numbers.{numbers_from}
use Rattle.letter_space.specs.SpaceView.{space_tree}
use Rattle.machines.specs.MachineView.{environment_tree}
use Rattle.machines.specs.Moves.{environment_moves}
use Rattle.annotation_check.specs.internal.Pairs.{move_lists}
use Rattle.annotation_check.proofs.pairing.environment_moves.Given as goal

abbrev pub invariant-loop-state : goal.invariant-loop-state
invariant-loop-state l =
    move_lists l.table.items ≡ map (environment_moves (space_tree l.space) (environment_tree l.environment)) (numbers_from 0 l.state)
