use Rattle.std.proofs.Common.{◌≡◌, Some, slice_get}
use Rattle.machines.specs.MachineView.{environment_tree}
use Rattle.branch_finder.specs.internal.Visiting.{AreFoundUpTo}
use Rattle.branch_finder.proofs.visiting.add_successors.Given as goal

-- the state stays at its place, and the vectors gone through are expanded
abbrev pub invariant-loop-vector : goal.invariant-loop-vector
invariant-loop-vector l = record {
  here : slice_get l.found.items l.place ≡ Some l.state;
  found : AreFoundUpTo (environment_tree l.environment) l.place l.vector l.found.items;
}
