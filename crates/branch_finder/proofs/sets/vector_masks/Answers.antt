use Rattle.std.proofs.Common.{◌∙◌, sym, ap, subst, arith}
use Rattle.letter_space.specs.SpaceView.{space_tree}
use Rattle.letter_space.specs.Letters.{ArePicks, letter_of}
use Rattle.letter_space.proofs.VectorPicks.{vectors_pick}
use Rattle.branch_finder.specs.internal.Sets.{mask_of}
use Rattle.branch_finder.proofs.SetsMade.{images_more}
use Rattle.branch_finder.proofs.sets.vector_masks.Goals as goal

pub letter-requires : goal.letter-requires
letter-requires c =
    let controlled = (space_tree c.args.space.now).controlled in
    subst (ArePicks controlled) (sym (c.as_slice.ensures.value ∙ c.in_ok-picks.ensures))
    (vectors_pick controlled c.loop-vector.vector (omega (arith, c.loop-vector-test.true, c.requires.vectors)))

pub loop-vector-preserved : goal.loop-vector-preserved
loop-vector-preserved c =
    let space = space_tree c.args.space.now in
    images_more (mask_of space) c.loop-vector.vector c.letter.result c.loop-vector.masks.items c.push.new.self.items c.loop-vector.invariant
    c.in_ok-push.ensures.items (c.letter.ensures ∙ ap (letter_of space 0) (c.as_slice.ensures.value ∙ c.in_ok-picks.ensures))
