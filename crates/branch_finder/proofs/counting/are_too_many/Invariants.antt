use Rattle.std.proofs.Common.{◌≡◌, ◌*◌, ◌^◌}
use Rattle.branch_finder.proofs.counting.are_too_many.Given as goal

-- the branches of so many steps
abbrev pub invariant-loop : goal.invariant-loop
invariant-loop l = l.count ≡ l.predicates ^ 2 * l.vectors ^ l.counter
