use Rattle.std.proofs.Common.{◌∙◌, sym, ap, length, get_or}
use Rattle.std.proofs.lemmas.List.{length-map}
use Rattle.letter_space.specs.ControlledView.{controlled_tree}
use Rattle.letter_space.specs.SpaceView.{space_tree}
use Rattle.branch_finder.proofs.Taken.{picks_counted}
use Rattle.branch_finder.proofs.listing.updates_along.Goals as goal

pub add_updates-requires : goal.add_updates-requires
add_updates-requires c = record {
  picks =
      ap length (c.deref.ensures.value ∙ c.in_ok-picks.ensures)
      ∙ picks_counted (space_tree c.args.space.now).controlled (get_or c.args.path.now c.loop-offset.offset 0)
      ∙ length-map c.args.space.now.controlled controlled_tree ∙ sym (ap length c.as_slice.ensures);
}
