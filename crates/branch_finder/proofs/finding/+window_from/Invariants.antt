use Rattle.std.proofs.Common.{◌≡◌, ◌<◌, ◌++◌, ◌∷◌, [], ℕ, Some, slice_get}
use Rattle.letter_space.specs.SpaceView.{space_tree}
use Rattle.machines.specs.MachineView.{environment_tree}
use Rattle.branch_finder.specs.internal.Finding.{HasNoneBy}
use Rattle.branch_finder.proofs.finding.+window_from.Given as goal

abbrev pub decreases-window_from : goal.decreases-window_from
decreases-window_from l = l.left

-- there is none with any print gone through
abbrev pub invariant-loop-print : goal.invariant-loop-print
invariant-loop-print l =
    (i print : ℕ) → i < l.print-index → slice_get l.search.prints.now i ≡ Some print
    → HasNoneBy (space_tree l.search.space.now) (environment_tree l.search.environment.now) l.search.cells.now l.search.equality
    l.search.mask l.path (l.prints ++ print ∷ [])
