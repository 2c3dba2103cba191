use Rattle.machines.specs.MachineView.{environment_tree}
use Rattle.branch_finder.specs.internal.Planes.{IsPlaneOf, IsKept}
use Rattle.branch_finder.proofs.moving.states_with.Given as goal

-- those gone through that belong there
abbrev pub invariant-loop-state : goal.invariant-loop-state
invariant-loop-state l =
    IsPlaneOf l.environment.states (IsKept (environment_tree l.environment) l.plane l.wanted.mask l.wanted.bits l.state) l.kept.items
