-- Vectors: one choice of each signal, numbered in mixed radix, the first signal's choice being the most significant digit.
use Rattle.std.specs.Prelude.{ℕ, ◌*◌, ◌/◌, ◌%◌, nat_le, List, [], ◌∷◌, length, Option, Some, None, if◌then◌else◌}
use Rattle.letter_space.specs.declared.limits.TheConstants.{MOST_VECTORS}
use Rattle.letter_space.specs.SpaceTree.{ControlledTree, SpaceTree}

-- how many vectors signals have: one where there is no signal
abbrev pub vector_count : List ControlledTree → ℕ
vector_count [] = 1
vector_count (c ∷ cs) = length c.choices * vector_count cs

-- the choices that the vector with a number picks
abbrev pub picks_of : List ControlledTree → ℕ → List ℕ
picks_of [] vector = []
picks_of (c ∷ cs) vector = (vector / vector_count cs) ∷ picks_of cs (vector % vector_count cs)

-- how many vectors a space has, where they are not too many
abbrev pub vectors_of : SpaceTree → Option ℕ
vectors_of space =
    if nat_le (vector_count space.controlled) MOST_VECTORS then Some (vector_count space.controlled) else None
