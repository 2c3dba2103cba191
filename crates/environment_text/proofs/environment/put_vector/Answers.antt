use Rattle.std.proofs.Common.{◌∙◌, length, ap, sym}
use Rattle.std.proofs.lemmas.List.{length-map}
use Rattle.letter_space.specs.ControlledView.{controlled_tree}
use Rattle.letter_space.specs.SpaceView.{space_tree}
use Rattle.letter_space.proofs.VectorPicks.{vectors_pick}
use Rattle.environment_text.proofs.Picks.{as_many}
use Rattle.environment_text.proofs.environment.put_vector.Goals as goal

pub put_picks-requires-clause-picks : goal.put_picks-requires-clause-picks
put_picks-requires-clause-picks c =
    rw c.as_slice.ensures (rw (c.deref.ensures.value ∙ c.in_ok-picks.ensures)
    (vectors_pick (space_tree c.args.space.now).controlled c.args.vector c.requires.below))

pub put_picks-requires-clause-counted : goal.put_picks-requires-clause-counted
put_picks-requires-clause-counted c =
    ap (λ xs. length xs) (c.deref.ensures.value ∙ c.in_ok-picks.ensures)
    ∙ sym (as_many _ _ (vectors_pick (space_tree c.args.space.now).controlled c.args.vector c.requires.below))
    ∙ length-map c.args.space.now.controlled controlled_tree
    ∙ ap (λ xs. length xs) (sym c.as_slice.ensures)
