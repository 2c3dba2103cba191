use Rattle.std.proofs.Common.{◌≡◌, ◌<◌, ◌≤◌, ◌++◌, map}
use Rattle.letter_space.specs.ControlledView.{controlled_tree}
use Rattle.letter_space.specs.Vectors.{picks_of}
use Rattle.letter_space.proofs.Bounds.{vectors_left}
use Rattle.letter_space.proofs.PicksLeft.{picks_left}
use Rattle.letter_space.proofs.picking.picks_of.Given as goal

-- the vectors of the signals that are left, and the picks so far with those that are left
abbrev pub invariant-loop-signal : goal.invariant-loop-signal
invariant-loop-signal l = (l.left ≡ vectors_left l.signals l.signal-index) × (l.rest < l.left) × (l.rest ≤ l.vector)
    × (l.picks.items ++ picks_left l.signals l.signal-index l.rest ≡ picks_of (map controlled_tree l.signals) l.vector)
