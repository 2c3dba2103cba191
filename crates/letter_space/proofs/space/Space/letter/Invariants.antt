-- What is set and what is left make the whole letter.
use Rattle.std.proofs.Common.{◌≡◌, map, drop, length}
use Rattle.letter_space.specs.ControlledView.{controlled_tree}
use Rattle.letter_space.specs.Letters.{with_picks}
use Rattle.letter_space.proofs.space.Space.letter.Given as goal

abbrev pub invariant-loop-controlled : goal.invariant-loop-controlled
invariant-loop-controlled l = record {
  can_next : (goal.iterator-loop-controlled).can_next l.controlled-iterator;
  is_finite : (goal.iterator-loop-controlled).is_finite l.controlled-iterator;
  left : with_picks l.letter (map controlled_tree (drop (length l.yielded) l.fn.self.controlled)) (drop (length l.yielded) l.picks)
      ≡ with_picks l.fn.valuation (map controlled_tree l.fn.self.controlled) l.picks;
}
