use Rattle.std.proofs.Common.{◌≡◌, List, map, ap, arith}
use Rattle.letter_space.specs.declared.controlled.Controlled.{Controlled}
use Rattle.letter_space.specs.SpaceTree.{choice_count}
use Rattle.letter_space.specs.ControlledView.{controlled_tree}
use Rattle.bounded_encoding.proofs.Signals.{item_within}
use Rattle.bounded_encoding.proofs.reading.choices_read.Goals as goal

pub choice_read-requires : goal.choice_read-requires
choice_read-requires c =
    let is_space = c.args.space.now.is_space in
    let items = c.as_slice-controlled-items.result.now in
    let around = item_within c.args.space.now.predicates items c.loop-controlled.controlled-index c.controlled-item.result
    (rw c.as_slice-controlled-items.ensures is_space) c.loop-controlled-test.true c.controlled-item.is in
    let all : choice_count (map controlled_tree items) ≡ choice_count (map controlled_tree c.args.space.now.controlled) =
    ap (λ (xs : List Controlled). choice_count (map controlled_tree xs)) c.as_slice-controlled-items.ensures in
    record {
      first = omega (arith, around, c.len-predicates.ensures);
      choices = omega (arith, around);
      within = omega (arith, around, all, c.requires.choices, c.len-predicates.ensures);
      few = c.requires.few;
    }
