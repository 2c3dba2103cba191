use Rattle.std.proofs.Common.{◌<◌, ℕ}
use Rattle.letter_space.specs.SpaceView.{space_tree}
use Rattle.machines.specs.MachineView.{environment_tree}
use Rattle.branch_finder.specs.internal.Values.{pair_at, LooksSeen}
use Rattle.branch_finder.proofs.values.looks_seen_with_right.Given as goal

-- none of the pairs of the places gone through looks seen
abbrev pub invariant-loop-place : goal.invariant-loop-place
invariant-loop-place l =
    (place : ℕ) → place < l.place
    → LooksSeen (space_tree l.walk.search.space.now) (environment_tree l.walk.search.environment.now) l.walk.search.cells.now
    l.walk.search.mask l.walk.path.now l.walk.prints.now (pair_at (space_tree l.walk.search.space.now) place l.right) → ⊥
