use Rattle.std.proofs.Common.{◌≡◌, ℕ, List, length, Some, slice_get}
use Rattle.letter_space.specs.SpaceView.{space_tree}
use Rattle.machines.specs.MachineView.{environment_tree}
use Rattle.branch_finder.specs.internal.Sets.{GoesBy}
use Rattle.branch_finder.specs.internal.Planes.{IsPlaneOf}
use Rattle.branch_finder.proofs.linking.set_links.Given as goal

-- a row for each of the states gone through
abbrev pub invariant-loop-state : goal.invariant-loop-state
invariant-loop-state l = (length l.rows ≡ l.state) × ((s : ℕ) (row : List ℕ) → slice_get l.rows s ≡ Some row
    → IsPlaneOf l.environment.states (GoesBy (space_tree l._space) (environment_tree l.environment) l.set s) row)
