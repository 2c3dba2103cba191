use Rattle.letter_space.specs.SpaceView.{space_tree}
use Rattle.bounded_encoding.proofs.SolutionsAreAssignments.Readings.{numbered_next}
use Rattle.counterstrategy.specs.internal.DualAsking.{vector_letter}
use Rattle.counterstrategy.proofs.vector_letters.letters_of_vectors.Goals as goal

pub loop-u-preserved : goal.loop-u-preserved
loop-u-preserved c =
    numbered_next (vector_letter (space_tree c.args.space.now)) _ _ _ _ c.loop-u.invariant c.in_ok-letter_of_vector.ensures
    c.in_ok-push.ensures.items
