use Rattle.std.proofs.Common.{◌≡◌}
use Rattle.letter_space.specs.SpaceView.{space_tree}
use Rattle.counterstrategy.specs.internal.DualAsking.{vector_letters}
use Rattle.counterstrategy.proofs.vector_letters.letters_of_vectors.Given as goal

abbrev pub invariant-loop-u : goal.invariant-loop-u
invariant-loop-u l = l.letters.items ≡ vector_letters (space_tree l.fn.space) l.u
