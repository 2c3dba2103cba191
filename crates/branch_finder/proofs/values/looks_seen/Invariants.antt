use Rattle.std.proofs.Common.{◌<◌, ℕ}
use Rattle.letter_space.specs.SpaceView.{space_tree}
use Rattle.machines.specs.MachineView.{environment_tree}
use Rattle.branch_finder.specs.internal.Values.{LooksSeen}
use Rattle.branch_finder.proofs.values.looks_seen.Given as goal

-- none of the pairs with the right bits gone through looks seen
abbrev pub invariant-loop-right : goal.invariant-loop-right
invariant-loop-right l =
    (right : ℕ) → right < l.right → (left_at left : ℕ)
    → LooksSeen (space_tree l.walk.search.space.now) (environment_tree l.walk.search.environment.now) l.walk.search.cells.now
    l.walk.search.mask l.walk.path.now l.walk.prints.now (record { left_at = left_at; left = left; right = right }) → ⊥
