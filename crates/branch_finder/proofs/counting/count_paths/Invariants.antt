use Rattle.std.proofs.Common.{◌≡◌, ◌^◌}
use Rattle.branch_finder.proofs.counting.count_paths.Given as goal

-- the paths of so many steps
abbrev pub invariant-loop : goal.invariant-loop
invariant-loop l = l.count ≡ l.vectors ^ l.counter
