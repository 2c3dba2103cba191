use Rattle.std.proofs.Common.{◌<◌, ℕ, length}
use Rattle.letter_space.specs.SpaceView.{space_tree}
use Rattle.machines.specs.MachineView.{environment_tree}
use Rattle.branch_finder.specs.internal.Differing.{DifferSomewhere}
use Rattle.branch_finder.proofs.differing.some_differ.Given as goal

-- none of those gone through differs from any
abbrev pub invariant-loop-left : goal.invariant-loop-left
invariant-loop-left l = (left right : ℕ) → left < l.left → right < length l.search.space.now.predicates
    → DifferSomewhere (space_tree l.search.space.now) (environment_tree l.search.environment.now) left right → ⊥
