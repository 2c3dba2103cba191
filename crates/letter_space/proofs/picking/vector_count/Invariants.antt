use Rattle.std.proofs.Common.{◌≡◌, ◌*◌}
use Rattle.letter_space.proofs.Bounds.{vectors_left}
use Rattle.letter_space.proofs.picking.vector_count.Given as goal

-- the count so far makes the whole count with what is left
abbrev pub invariant-loop-signal : goal.invariant-loop-signal
invariant-loop-signal l = l.count * vectors_left l.signals l.signal-index ≡ vectors_left l.signals 0
