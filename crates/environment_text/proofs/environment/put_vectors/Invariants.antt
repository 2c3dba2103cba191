-- What is written and what is left make the whole.
use Rattle.std.proofs.Common.{◌≡◌, ◌-◌, ◌++◌}
use Rattle.std.specs.Prelude.{flat_map}
use Rattle.std.specs.List.{range_with_len}
use Rattle.letter_space.specs.SpaceView.{space_tree}
use Rattle.environment_text.specs.EnvironmentText.{vector_line}
use Rattle.environment_text.proofs.environment.put_vectors.Given as goal

abbrev pub invariant-loop-vector : goal.invariant-loop-vector
invariant-loop-vector l =
    l.out.items ++ flat_map (vector_line l.names (space_tree l.space).controlled) (range_with_len l.vector (l.vectors - l.vector))
    ≡ l.fn.out.items ++ flat_map (vector_line l.names (space_tree l.space).controlled) (range_with_len 0 l.vectors)
