use Rattle.std.proofs.Common.{◌≡◌, ◌++◌}
use Rattle.branch_finder.specs.internal.Paths.{path_of}
use Rattle.branch_finder.proofs.counting.path_with.Given as goal

-- what is made and what is left make the whole
abbrev pub invariant-loop-left : goal.invariant-loop-left
invariant-loop-left l = l.path.items ++ path_of l.vectors l.left l.rest ≡ path_of l.vectors l.steps l.number

abbrev pub decreases-loop-left : goal.decreases-loop-left
decreases-loop-left l = l.left
