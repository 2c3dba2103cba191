-- What formulas mean on letter loops. A letter is a number whose bits are truths, and a loop has letters that come once
-- and then letters that come again and again.
-- Source: Finkbeiner, Klein, Piskac, Santolucito: Temporal Stream Logic: Synthesis Beyond the Bools (CAV 2019), the
-- approximation in linear temporal logic.
use Rattle.std.specs.Prelude.{ℕ, Bool, true, false, not, ◌&&◌, ◌||◌, List, ◌++◌, length, Option, slice_get}
use Rattle.std.specs.Option.{option_map_or}
use Rattle.loop_shape.specs.LoopShape.{LoopShape}
use Rattle.loop_shape.specs.AlongLoop.{next_at, until_at, release_at}
use Rattle.ltl_formula.specs.LtlTree.{LtlTree, LtlTrees, top, bottom, bit, not_bit, conjunction, disjunction, next, until, release}
use Rattle.ltl_formula.specs.LtlTree.{no_formulas, more_formulas}
use Rattle.ltl_formula.specs.Cubes.{has_bit}

-- the letters that come once, and those that come again and again
pub record LetterLoop : Type 0 where
  pub stem : List ℕ
  pub cycle : List ℕ

-- its positions: the last letter goes on to the first one of the cycle
abbrev pub shape_of : LetterLoop → LoopShape
shape_of loop = record { start = length loop.stem; length = length loop.cycle }

-- the letter at a position
abbrev pub letter_at : LetterLoop → ℕ → Option ℕ
letter_at loop i = slice_get (loop.stem ++ loop.cycle) i

-- whether the letter at a position has a bit
abbrev pub bit_holds : LetterLoop → ℕ → ℕ → Bool
bit_holds loop b i = option_map_or (has_bit b) (letter_at loop i) false

-- whether a formula holds at a position
abbrev mutual
  pub holds : LetterLoop → LtlTree → ℕ → Bool
  holds loop top i = true
  holds loop bottom i = false
  holds loop (bit b) i = bit_holds loop b i
  holds loop (not_bit b) i = not (bit_holds loop b i)
  holds loop (conjunction fs) i = holds_all loop fs i
  holds loop (disjunction fs) i = holds_any loop fs i
  holds loop (next a) i = next_at (shape_of loop) (holds loop a) i
  holds loop (until a b) i = until_at (shape_of loop) (holds loop a) (holds loop b) i
  holds loop (release a b) i = release_at (shape_of loop) (holds loop a) (holds loop b) i

  -- whether each member does
  pub holds_all : LetterLoop → LtlTrees → ℕ → Bool
  holds_all loop no_formulas i = true
  holds_all loop (more_formulas f fs) i = holds loop f i && holds_all loop fs i

  -- whether some member does
  pub holds_any : LetterLoop → LtlTrees → ℕ → Bool
  holds_any loop no_formulas i = false
  holds_any loop (more_formulas f fs) i = holds loop f i || holds_any loop fs i
