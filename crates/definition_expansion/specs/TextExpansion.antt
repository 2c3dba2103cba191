-- The expansion of a text, on its terminals alone: each use of a defined name is replaced by the body between brackets, in
-- which each parameter is replaced by the name that the use passes, until no use is left.
use Rattle.std.specs.Prelude.{◌≡◌, ℕ, Bool, false, List, [], ◌∷◌, ◌++◌, length, map, Option, Some}
use Rattle.std.specs.Option.{is_some}
use Rattle.spec_syntax.specs.Syntax.{Terminal, free, word, mark}
use Rattle.spec_syntax.specs.Grammar.{in_brackets}
use Rattle.definition_expansion.specs.Expansion.{passed}

-- a definition as it stands in a text
pub record DefinitionText : Type 0 where
  pub parameters : List (List ℕ)
  pub body : List Terminal

abbrev pub renamed_terminal : (List ℕ → List ℕ) → Terminal → Terminal
renamed_terminal stands_for (free x) = free (stands_for x)
renamed_terminal stands_for (word w) = word w
renamed_terminal stands_for (mark m) = mark m

-- the body, with each parameter replaced by the name that is passed for it
abbrev pub body_with : DefinitionText → List (List ℕ) → List Terminal
body_with d names = map (renamed_terminal (passed d.parameters names)) d.body

module _ (named : List ℕ → Option DefinitionText) where
  abbrev pub is_defined : Terminal → Bool
  is_defined (free x) = is_some (named x)
  is_defined (word w) = false
  is_defined (mark m) = false

  pub data Expands : List Terminal → List Terminal → Type 0 where
    nothing : Expands [] []
    kept : {xs ys : List Terminal} (x : Terminal) → is_defined x ≡ false → Expands xs ys → Expands (x ∷ xs) (x ∷ ys)
    used : {xs ys zs : List Terminal} (x : List ℕ) (names : List (List ℕ)) (d : DefinitionText) → named x ≡ Some d →
        length names ≡ length d.parameters → Expands (body_with d names) zs → Expands xs ys →
        Expands (free x ∷ (map free names ++ xs)) (in_brackets zs ++ ys)
