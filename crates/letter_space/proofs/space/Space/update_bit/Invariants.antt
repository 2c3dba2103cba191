use Rattle.std.proofs.Common.{◌≡◌, map, drop}
use Rattle.letter_space.specs.ControlledView.{controlled_tree}
use Rattle.letter_space.specs.Bits.{controlled_with}
use Rattle.letter_space.proofs.space.Space.update_bit.Given as goal

-- the signal was not found so far
abbrev pub invariant-loop-controlled : goal.invariant-loop-controlled
invariant-loop-controlled l =
    controlled_with (map controlled_tree (drop l.controlled-index l.controlled-items)) l.signal
    ≡ controlled_with (map controlled_tree l.controlled-items) l.signal
