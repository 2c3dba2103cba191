use Rattle.base_library.proofs.Lists.{written_step}
use Rattle.letter_space.specs.SpaceView.{space_tree}
use Rattle.environment_text.specs.EnvironmentText.{vector_line}
use Rattle.environment_text.proofs.Pieces.{piece_left}
use Rattle.environment_text.proofs.environment.put_vectors.Goals as goal

pub loop-vector-preserved : goal.loop-vector-preserved
loop-vector-preserved c =
    written_step _ _ _ _ _ _ c.loop-vector.invariant
    (piece_left (vector_line c.args.names.now (space_tree c.args.space.now).controlled) c.args.vectors c.loop-vector.vector
    c.loop-vector-test.true)
    c.in_ok-put_vector.ensures
