-- Which definition uses which, and their order, in which each uses only earlier ones. A use is told by its form alone: a defined
-- name as an atom, alone or followed by bare names, whatever their number.
use Rattle.std.specs.Prelude.{◌≡◌, ℕ, ◌<◌, Bool, true, false, ◌&&◌, List, length, map, Option, Some, slice_get, IsTrue}
use Rattle.std.specs.List.{list_any}
use Rattle.std.specs.Option.{is_some, option_map_or}
use Rattle.std.specs.Str.{bytes_eq}
use Rattle.base_library.specs.Numbers.{is_among, IsDistinct}
use Rattle.spec_syntax.specs.Syntax.{FormulaSyntax, Definition}
use Rattle.definition_expansion.specs.UseLevels.{uses_at}
use Rattle.definition_expansion.specs.DefinitionView.{named_in}
use Rattle.definition_expansion.specs.Reaching.{Reaches, Using}

-- the name stands in the formula where it is a use, if it is defined
abbrev pub stands_in : FormulaSyntax → List ℕ → Bool
stands_in a x = list_any (λ y. bytes_eq y x) (map (λ u. u.name) (uses_at 0 a))

-- the definition of the first name uses that of the second
abbrev pub uses_of : (List ℕ → Option Definition) → List ℕ → List ℕ → Bool
uses_of named x y = option_map_or (λ d. stands_in d.body y) (named x) false && is_some (named y)

-- the definitions by their numbers, each once, in an order in which each uses only earlier ones
pub record IsOrder (ds : List Definition) (order : List ℕ) : Type 0 where
  pub all : (i : ℕ) (d : Definition) → slice_get ds i ≡ Some d → is_among order i ≡ true
  pub once : IsDistinct order
  pub count : length order ≡ length ds
  pub within : (p i : ℕ) → slice_get order p ≡ Some i → (d : Definition) × (slice_get ds i ≡ Some d)
  pub earlier : (p i j : ℕ) (d e : Definition) → slice_get order p ≡ Some i → slice_get ds i ≡ Some d → slice_get ds j ≡ Some e →
      IsTrue (uses_of (named_in ds) d.name e.name) → (q : ℕ) × (q < p) × (slice_get order q ≡ Some j)

-- the definition reaches itself through uses
abbrev pub IsOnCycle : List Definition → Definition → Type 0
IsOnCycle ds d = Reaches (Using (uses_of (named_in ds))) d.name d.name

-- the definition with this number reaches itself through uses, and none before it does
pub record IsFirstOnCycle (ds : List Definition) (number : ℕ) : Type 0 where
  pub definition : Definition
  pub here : slice_get ds number ≡ Some definition
  pub reaches : IsOnCycle ds definition
  pub first : (i : ℕ) (d : Definition) → i < number → slice_get ds i ≡ Some d → IsOnCycle ds d → ⊥
