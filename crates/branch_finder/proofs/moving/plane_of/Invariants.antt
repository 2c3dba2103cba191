use Rattle.branch_finder.specs.internal.Planes.{IsPlaneOf, IsListed}
use Rattle.branch_finder.proofs.moving.plane_of.Given as goal

-- those gone through
abbrev pub invariant-loop-state : goal.invariant-loop-state
invariant-loop-state l = IsPlaneOf l.states (IsListed l.listed l.state-index) l.plane.items
