-- Internal: only private functions of this crate use these words.
use Rattle.std.specs.Prelude.{◌≡◌, ℕ, List, ◌&&◌, ◌||◌, true, false, Bool}
use Rattle.loop_shape.specs.LoopShape.{IsPosition}
use Rattle.loop_shape.specs.AlongLoop.{until_at, release_at}
use Rattle.ltl_formula.specs.LtlTree.{LtlTree, LtlTrees, ltl_formulas_of}
use Rattle.ltl_formula.specs.LetterLoop.{LetterLoop, shape_of, holds_all, holds_any}

-- lists of which all members, and of which some member, hold at the same positions
abbrev pub MeanSame : LtlTrees → LtlTrees → Type 0
MeanSame fs gs = (loop : LetterLoop) (i : ℕ) → IsPosition (shape_of loop) i →
    (holds_all loop fs i ≡ holds_all loop gs i) × (holds_any loop fs i ≡ holds_any loop gs i)

-- whether all of the first hold from a position on, and all of the others at it
abbrev pub all_apart : LetterLoop → List LtlTree → List LtlTree → ℕ → Bool
all_apart loop always others i =
    release_at (shape_of loop) (λ _. false) (holds_all loop (ltl_formulas_of always)) i && holds_all loop (ltl_formulas_of others) i

-- whether some of the first comes from a position on, or some of the others holds at it
abbrev pub any_apart : LetterLoop → List LtlTree → List LtlTree → ℕ → Bool
any_apart loop awaited others i =
    until_at (shape_of loop) (λ _. true) (holds_any loop (ltl_formulas_of awaited)) i || holds_any loop (ltl_formulas_of others) i
