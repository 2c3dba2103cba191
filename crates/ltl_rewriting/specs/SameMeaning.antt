-- Formulas of the same meaning.
use Rattle.std.specs.Prelude.{◌≡◌, ℕ}
use Rattle.loop_shape.specs.LoopShape.{IsPosition}
use Rattle.ltl_formula.specs.LtlTree.{LtlTree}
use Rattle.ltl_formula.specs.LetterLoop.{LetterLoop, shape_of, holds}

-- on every letter loop both hold at the same positions
abbrev pub MeansSame : LtlTree → LtlTree → Type 0
MeansSame f g = (loop : LetterLoop) (i : ℕ) → IsPosition (shape_of loop) i → holds loop f i ≡ holds loop g i
