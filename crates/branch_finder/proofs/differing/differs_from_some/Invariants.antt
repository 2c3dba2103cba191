use Rattle.std.proofs.Common.{◌<◌, ℕ}
use Rattle.letter_space.specs.SpaceView.{space_tree}
use Rattle.machines.specs.MachineView.{environment_tree}
use Rattle.branch_finder.specs.internal.Differing.{DifferSomewhere}
use Rattle.branch_finder.proofs.differing.differs_from_some.Given as goal

-- from none of those gone through it differs
abbrev pub invariant-loop-right : goal.invariant-loop-right
invariant-loop-right l =
    (right : ℕ) → right < l.right → DifferSomewhere (space_tree l.search.space.now) (environment_tree l.search.environment.now) l.left right → ⊥
