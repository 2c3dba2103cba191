use Rattle.std.proofs.Common.{◌≡◌, ◌*◌, ◌≤◌}
use Rattle.letter_space.specs.declared.limits.TheConstants.{MOST_VECTORS}
use Rattle.letter_space.proofs.Bounds.{vectors_left}
use Rattle.letter_space.proofs.space.Space.vectors.Given as goal

-- the count so far is within the limit, and with what is left makes the whole count
abbrev pub invariant-loop-controlled : goal.invariant-loop-controlled
invariant-loop-controlled l =
    (l.count ≤ MOST_VECTORS)
    × (l.count * vectors_left l.controlled-items l.controlled-index ≡ vectors_left l.controlled-items 0)
