-- How large the expansions of definitions are, by tables.
use Rattle.std.specs.Prelude.{◌≡◌, ℕ, min, List, length, Option, option_map, option_and_then, slice_get}
use Rattle.tsl_terms.specs.Name.{Name, number_of}
use Rattle.spec_syntax.specs.Syntax.{Definition}
use Rattle.definition_expansion.specs.Folds.{Fold, number_within, depths, node_counts}
use Rattle.definition_expansion.specs.DefinitionView.{named_in}
use Rattle.definition_expansion.specs.declared.sizing.Size.{Size}
use Rattle.definition_expansion.specs.declared.sizing.TheConstants.{LEVELS_STOP, NODES_STOP}

-- the size that a table has for a name
abbrev pub size_at : List Name → List Size → List ℕ → Option Size
size_at heads sizes x = option_and_then (slice_get sizes) (number_of heads x)

abbrev pub levels_at : List Name → List Size → List ℕ → Option ℕ
levels_at heads sizes x = option_map (λ s. s.levels) (size_at heads sizes x)

abbrev pub nodes_at : List Name → List Size → List ℕ → Option ℕ
nodes_at heads sizes x = option_map (λ s. s.nodes) (size_at heads sizes x)

-- the number of what stands in the place of a use, with no use left in it
abbrev pub number_in : Fold → List Definition → List ℕ → Option ℕ
number_in F ds x = number_within F (named_in ds) (length ds) x

-- a table of the sizes of what stands in the place of uses
pub record AreSizes (heads : List Name) (ds : List Definition) (sizes : List Size) : Type 0 where
  pub levels : (x : List ℕ) → levels_at heads sizes x ≡ option_map (min LEVELS_STOP) (number_in depths ds x)
  pub nodes : (x : List ℕ) → nodes_at heads sizes x ≡ option_map (min NODES_STOP) (number_in node_counts ds x)
