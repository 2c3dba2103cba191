use Rattle.std.proofs.Common.{◌∙◌, sym, ap, length}
use Rattle.std.proofs.lemmas.List.{length-map}
use Rattle.letter_space.specs.ControlledView.{controlled_tree}
use Rattle.letter_space.specs.SpaceView.{space_tree}
use Rattle.branch_finder.proofs.Taken.{picks_counted}
use Rattle.branch_finder.proofs.values.values_after.Goals as goal

pub value_after-requires-clause-picks : goal.value_after-requires-clause-picks
value_after-requires-clause-picks c =
    ap length (c.as_slice.ensures.value ∙ c.in_ok-picks.ensures)
    ∙ picks_counted (space_tree c.args.space.now).controlled c.args.vector
    ∙ length-map c.args.space.now.controlled controlled_tree ∙ sym (ap length c.as_slice-controlled.ensures)
