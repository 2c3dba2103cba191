-- Internal: only private functions of this crate use these words.
-- Tables of sizes in the making.
use Rattle.std.specs.Prelude.{◌≡◌, ℕ, ◌<◌, min, List, Some, option_map, slice_get}
use Rattle.spec_syntax.specs.Syntax.{Definition}
use Rattle.definition_expansion.specs.Folds.{Fold}
use Rattle.definition_expansion.specs.ExpansionSizes.{number_in}
use Rattle.definition_expansion.specs.declared.sizing.Size.{Size}

-- the numbers of the definitions at the first places of the order are there
abbrev pub HasNumbers : Fold → ℕ → (Size → ℕ) → List Definition → List ℕ → ℕ → List Size → Type 0
HasNumbers F most number ds order places sizes = (q i : ℕ) (d : Definition) → q < places → slice_get order q ≡ Some i →
    slice_get ds i ≡ Some d → option_map number (slice_get sizes i) ≡ option_map (min most) (number_in F ds d.name)
