-- Internal: only private functions of this crate use these words.
-- The value of a function of words on a list of arguments, and what is given for a name.
use Rattle.std.specs.Prelude.{ℕ, List, [], ◌∷◌, Option, Some, None, option_and_then, slice_get}
use Rattle.table_syntax.specs.declared.words.Given.{Given}
use Rattle.word_interp.specs.Operations.{WordFunction, constant, unary, binary}

-- there is no value where it takes another number of arguments
abbrev pub applied : WordFunction → List ℕ → Option ℕ
applied (constant n) [] = Some n
applied (unary f) (x ∷ []) = Some (f x)
applied (binary f) (x ∷ y ∷ []) = Some (f x y)
applied _ _ = None

-- what stands at the place of a name
abbrev pub given_at : List (Option Given) → ℕ → Option Given
given_at given id = option_and_then (λ g. g) (slice_get given id)
