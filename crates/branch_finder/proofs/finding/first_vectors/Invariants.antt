use Rattle.std.proofs.Common.{◌≡◌, map, take}
use Rattle.branch_finder.specs.internal.Sets.{first_of}
use Rattle.branch_finder.proofs.finding.first_vectors.Given as goal

-- those of the sets gone through
abbrev pub invariant-loop-number : goal.invariant-loop-number
invariant-loop-number l = l.path.items ≡ map (first_of l.firsts) (take l.number-index l.numbers)
