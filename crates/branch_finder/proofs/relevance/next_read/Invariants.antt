use Rattle.std.proofs.Common.{take}
use Rattle.std.specs.List.{AllByRecursion}
use Rattle.letter_space.specs.SpaceView.{space_tree}
use Rattle.branch_finder.specs.internal.Relevant.{IsUnread}
use Rattle.branch_finder.proofs.relevance.next_read.Given as goal

-- those gone through are unread
abbrev pub invariant-loop-place : goal.invariant-loop-place
invariant-loop-place l = AllByRecursion (IsUnread (space_tree l.space) l.cells l.rest) (take l.place l.rest)
