use Rattle.std.proofs.Common.{◌<◌, ℕ, map, length}
use Rattle.letter_space.specs.SpaceView.{space_tree}
use Rattle.machines.specs.MachineView.{environment_tree}
use Rattle.branch_finder.specs.internal.Sets.{first_of}
use Rattle.branch_finder.specs.internal.Paths.{path_of}
use Rattle.branch_finder.specs.internal.Finding.{HasNoneOn}
use Rattle.branch_finder.proofs.finding.window_of_length.Given as goal

-- there is none on the paths gone through
abbrev pub invariant-loop-number : goal.invariant-loop-number
invariant-loop-number l =
    (n : ℕ) → n < l.number → HasNoneOn (space_tree l.search.space.now) (environment_tree l.search.environment.now) l.search.cells.now
    l.search.equality (map (first_of l.search.firsts.now) (path_of (length l.search.firsts.now) l.length n))
