use Rattle.std.proofs.Common.{ℕ}
use Rattle.machines.specs.MachineView.{environment_tree}
use Rattle.branch_finder.specs.internal.Planes.{IsKept}
use Rattle.branch_finder.proofs.moving.is_some_with.Given as goal

-- none of those gone through
abbrev pub invariant-loop-state : goal.invariant-loop-state
invariant-loop-state l = (s : ℕ) → IsKept (environment_tree l.environment) l.plane l.wanted.mask l.wanted.bits l.state s → ⊥
