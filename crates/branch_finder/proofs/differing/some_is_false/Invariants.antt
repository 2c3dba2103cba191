use Rattle.std.proofs.Common.{◌<◌, ℕ}
use Rattle.machines.specs.MachineView.{environment_tree}
use Rattle.branch_finder.specs.internal.Differing.{IsFalseSomewhere}
use Rattle.branch_finder.proofs.differing.some_is_false.Given as goal

-- none of those gone through is false somewhere
abbrev pub invariant-loop-right : goal.invariant-loop-right
invariant-loop-right l =
    (right : ℕ) → right < l.right → IsFalseSomewhere (environment_tree l.search.environment.now) l.search.mask right → ⊥
