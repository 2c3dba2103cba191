use Rattle.std.proofs.Common.{◌<◌, ℕ}
use Rattle.letter_space.specs.SpaceView.{space_tree}
use Rattle.machines.specs.MachineView.{environment_tree}
use Rattle.branch_finder.specs.internal.Paths.{IsSeen}
use Rattle.branch_finder.proofs.looking.seen_at.Given as goal

-- none of those gone through is seen
abbrev pub invariant-loop-left : goal.invariant-loop-left
invariant-loop-left l =
    (left right : ℕ) → left < l.left
    → IsSeen (space_tree l.look.walk.search.space.now) (environment_tree l.look.walk.search.environment.now) l.look.walk.search.cells.now
    l.look.walk.search.equality l.look.walk.search.mask l.look.walk.path.now l.look.walk.prints.now
    (record { left_at = l.left_at; left = left; right = right }) → ⊥
