use Rattle.std.proofs.Common.{length}
use Rattle.branch_finder.proofs.relevance.unread_cells.Given as goal

-- each turn takes one out
abbrev pub decreases-loop-place : goal.decreases-loop-place
decreases-loop-place l = length l.rest.items
