use Rattle.std.proofs.Common.{◌≡◌, map}
use Rattle.std.specs.List.{filter_map, range_with_len}
use Rattle.letter_space.specs.SpaceView.{space_tree}
use Rattle.machines.specs.MachineView.{environment_tree, move_tree}
use Rattle.machines.specs.Moves.{environment_move}
use Rattle.machines.proofs.environment.Environment.moves.Given as goal

-- the moves under the vectors so far
abbrev pub invariant-loop-vector : goal.invariant-loop-vector
invariant-loop-vector l =
    map move_tree l.moves.items
    ≡ filter_map (environment_move (space_tree l.space) (environment_tree l.self) l.state) (range_with_len 0 l.vector)
