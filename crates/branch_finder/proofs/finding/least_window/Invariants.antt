use Rattle.std.proofs.Common.{◌<◌, ℕ}
use Rattle.letter_space.specs.SpaceView.{space_tree}
use Rattle.machines.specs.MachineView.{environment_tree}
use Rattle.branch_finder.specs.internal.Finding.{HasNoneOf}
use Rattle.branch_finder.proofs.finding.least_window.Given as goal

-- there is none of the lengths gone through
abbrev pub invariant-loop-length : goal.invariant-loop-length
invariant-loop-length l =
    (n : ℕ) → n < l.length → HasNoneOf (space_tree l.search.space.now) (environment_tree l.search.environment.now) l.search.cells.now
    l.search.equality n
