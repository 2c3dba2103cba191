use Rattle.std.proofs.Common.{◌≡◌, ◌∙◌, ap, sym, subst}
use Rattle.letter_space.specs.SpaceView.{space_tree}
use Rattle.letter_space.specs.Letters.{ArePicks, letter_of}
use Rattle.letter_space.specs.Vectors.{picks_of}
use Rattle.letter_space.proofs.VectorPicks.{vectors_pick}
use Rattle.counterstrategy.proofs.vector_letters.letter_of_vector.Goals as goal

pub letter-requires : goal.letter-requires
letter-requires c =
    let controlled = (space_tree c.args.space.now).controlled in
    let picked : c.as_slice.result.now ≡ picks_of controlled c.args.vector = c.as_slice.ensures.value ∙ c.in_ok-picks.ensures in
    subst (ArePicks controlled) (sym picked) (vectors_pick controlled c.args.vector c.requires)

pub returns : goal.returns
returns c =
    let controlled = (space_tree c.args.space.now).controlled in
    let picked : c.as_slice.result.now ≡ picks_of controlled c.args.vector = c.as_slice.ensures.value ∙ c.in_ok-picks.ensures in
    c.letter.ensures ∙ ap (letter_of (space_tree c.args.space.now) 0) picked
