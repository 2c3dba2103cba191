use Rattle.std.proofs.Common.{◌≡◌, ◌++◌, map, drop}
use Rattle.letter_space.specs.SpaceView.{space_tree}
use Rattle.machines.specs.MachineView.{controller_tree, move_tree}
use Rattle.machines.specs.Moves.{entries_of, moves_from}
use Rattle.machines.proofs.controller.Controller.moves.Given as goal

-- the moves so far, and those of the valuations that are left
abbrev pub invariant-loop-valuation : goal.invariant-loop-valuation
invariant-loop-valuation l =
    map move_tree l.moves.items ++ moves_from (space_tree l.space) l.valuation
    (drop l.valuation (entries_of (controller_tree l.self) l.state))
    ≡ moves_from (space_tree l.space) 0 (entries_of (controller_tree l.self) l.state)
