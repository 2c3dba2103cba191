use Rattle.std.proofs.Common.{◌≡◌, map, take}
use Rattle.table_runner.proofs.acting.copies.Given as goal

abbrev pub invariant-loop-value : goal.invariant-loop-value
invariant-loop-value g l = map g.A.Algebra.seen l.copies.items ≡ map g.A.Algebra.seen (take l.value-index l.values)
