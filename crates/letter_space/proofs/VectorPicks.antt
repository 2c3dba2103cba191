-- Each vector picks a choice of each signal.
use Rattle.std.proofs.Common.{◌≡◌, ℕ, zero, suc, ◌*◌, ◌%◌, ◌<◌, List, [], ◌∷◌, length, arith}
use Rattle.std.proofs.Math.Nat.{mod-lt, div-lt_iff_lt-mul}
use Rattle.letter_space.specs.SpaceTree.{ControlledTree}
use Rattle.letter_space.specs.Letters.{ArePicks}
use Rattle.letter_space.specs.Vectors.{vector_count, picks_of}

-- a product that is above something has no factor 0
pub some_columns : (rows columns k : ℕ) → k < rows * columns → 0 < columns
some_columns rows zero k below = let none : rows * zero ≡ 0 = grind arith in absurd (omega (arith, below, none))
some_columns rows (suc columns) k below = omega arith

pub vectors_pick : (cs : List ControlledTree) (u : ℕ) → u < vector_count cs → ArePicks cs (picks_of cs u)
vectors_pick [] u below = tt
vectors_pick (c ∷ cs) u below =
    let some = some_columns (length c.choices) (vector_count cs) u below in (
      (div-lt_iff_lt-mul some).1 below,
      vectors_pick cs (u % vector_count cs) (mod-lt u some),
    )
