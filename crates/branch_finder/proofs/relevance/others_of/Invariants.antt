use Rattle.std.proofs.Common.{◌≡◌, take}
use Rattle.branch_finder.specs.internal.Relevant.{others_of}
use Rattle.branch_finder.proofs.relevance.others_of.Given as goal

-- those of the cells gone through
abbrev pub invariant-loop-cell : goal.invariant-loop-cell
invariant-loop-cell l = l.others.items ≡ others_of (take l.cell-index l.cells) l.rest
