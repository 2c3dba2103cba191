use Rattle.std.proofs.Common.{◌≡◌, ℕ, List, length, Some, slice_get}
use Rattle.letter_space.specs.SpaceView.{space_tree}
use Rattle.machines.specs.MachineView.{environment_tree}
use Rattle.branch_finder.specs.internal.Planes.{AreLinks}
use Rattle.branch_finder.proofs.linking.links_of.Given as goal

-- rows for each of the sets gone through
abbrev pub invariant-loop-set : goal.invariant-loop-set
invariant-loop-set l = (length l.links ≡ l.set-index) × ((n : ℕ) (rows : List (List ℕ)) → slice_get l.links n ≡ Some rows → (set : ℕ)
    → slice_get l.sets n ≡ Some set → AreLinks (space_tree l.space) (environment_tree l.environment) set rows)
