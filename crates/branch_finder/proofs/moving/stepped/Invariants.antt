use Rattle.letter_space.specs.SpaceView.{space_tree}
use Rattle.machines.specs.MachineView.{environment_tree}
use Rattle.branch_finder.specs.internal.Sets.{numbered_set}
use Rattle.branch_finder.specs.internal.Planes.{IsPlaneOf, GoesFrom}
use Rattle.branch_finder.proofs.moving.stepped.Given as goal

-- the states that those gone through go to
abbrev pub invariant-loop-state : goal.invariant-loop-state
invariant-loop-state l =
    IsPlaneOf l.search.environment.now.states (GoesFrom (space_tree l.search.space.now) (environment_tree l.search.environment.now)
    (numbered_set (space_tree l.search.space.now) l.search.cells.now l.search.firsts.now l.number) l.plane l.state) l.next.items
