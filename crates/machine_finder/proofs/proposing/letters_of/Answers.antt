use Rattle.std.proofs.Common.{◌≡◌, ◌∙◌, sym, subst, arith}
use Rattle.letter_space.specs.Letters.{ArePicks}
use Rattle.letter_space.specs.SpaceView.{space_tree}
use Rattle.letter_space.specs.Vectors.{picks_of}
use Rattle.letter_space.proofs.VectorPicks.{vectors_pick}
use Rattle.machine_finder.proofs.proposing.letters_of.Goals as goal

pub letter-requires : goal.letter-requires
letter-requires c =
    let controlled = (space_tree c.args.space.now).controlled in
    let picked : c.as_slice.result.now ≡ picks_of controlled c.loop-vector.vector =
    c.as_slice.ensures.value ∙ c.in_ok-picks.ensures in
    subst (ArePicks controlled) (sym picked)
    (vectors_pick controlled c.loop-vector.vector (omega (arith, c.loop-vector-test.true, c.requires)))
