use Rattle.std.proofs.Common.{◌<◌, ℕ}
use Rattle.letter_space.specs.SpaceView.{space_tree}
use Rattle.machines.specs.MachineView.{environment_tree}
use Rattle.branch_finder.specs.internal.Paths.{IsSeenAlone}
use Rattle.branch_finder.proofs.looking.seen_alone.Given as goal

-- none of those gone through is seen
abbrev pub invariant-loop-right : goal.invariant-loop-right
invariant-loop-right l =
    (right : ℕ) → right < l.right
    → IsSeenAlone (space_tree l.look.walk.search.space.now) (environment_tree l.look.walk.search.environment.now)
    l.look.walk.search.cells.now
    l.look.walk.search.equality l.look.walk.search.mask l.look.walk.path.now l.look.walk.prints.now right → ⊥
