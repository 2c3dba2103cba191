use Rattle.std.proofs.Common.{◌≡◌, ◌++◌, map, take}
use Rattle.tsl_meaning.proofs.leaves.add_copies.Given as goal

-- those that stood, and the copies so far
abbrev pub invariant-loop-value : goal.invariant-loop-value
invariant-loop-value g l =
    map g.J.Algebra.seen l.values.items ≡ map g.J.Algebra.seen l.initial.values.items ++ map g.J.Algebra.seen (take l.value-index l.from)
