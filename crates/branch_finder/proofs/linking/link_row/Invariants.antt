use Rattle.machines.specs.MachineView.{environment_tree}
use Rattle.branch_finder.specs.internal.Planes.{IsPlaneOf, GoesUnder}
use Rattle.branch_finder.proofs.linking.link_row.Given as goal

-- the states that it goes to under the vectors gone through
abbrev pub invariant-loop-vector : goal.invariant-loop-vector
invariant-loop-vector l =
    IsPlaneOf l.environment.states (GoesUnder (environment_tree l.environment) l.vectors l.state l.vector-index) l.row.items
