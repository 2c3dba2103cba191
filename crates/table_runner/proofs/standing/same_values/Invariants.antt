use Rattle.std.proofs.Common.{◌≡◌, map, take}
use Rattle.table_runner.proofs.standing.same_values.Given as goal

-- so far the values are the same
abbrev pub invariant-loop-i : goal.invariant-loop-i
invariant-loop-i g l = map g.A.Algebra.seen (take l.i l.a) ≡ map g.A.Algebra.seen (take l.i l.b)
