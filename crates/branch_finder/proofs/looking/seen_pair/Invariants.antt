use Rattle.std.proofs.Common.{◌<◌, ℕ}
use Rattle.letter_space.specs.SpaceView.{space_tree}
use Rattle.machines.specs.MachineView.{environment_tree}
use Rattle.branch_finder.specs.internal.Paths.{IsSeen}
use Rattle.branch_finder.proofs.looking.seen_pair.Given as goal

-- none of those gone through is seen
abbrev pub invariant-loop-left_at : goal.invariant-loop-left_at
invariant-loop-left_at l =
    (left_at left right : ℕ) → left_at < l.left_at
    → IsSeen (space_tree l.look.walk.search.space.now) (environment_tree l.look.walk.search.environment.now) l.look.walk.search.cells.now
    l.look.walk.search.equality l.look.walk.search.mask l.look.walk.path.now l.look.walk.prints.now
    (record { left_at = left_at; left = left; right = right }) → ⊥
