-- The uses of the numbers of a graph.
use Rattle.std.proofs.Common.{◌≡◌, ℕ, suc, ◌<◌, true, false, List, [], ◌∷◌, length, None, Some, Vec, slice_get, refl, ap}
use Rattle.std.specs.Option.{option_map_or, option_and_then}
use Rattle.std.proofs.lemmas.Bool.{false≢true}
use Rattle.std.proofs.lemmas.Option.{none-some, slice_get_within}
use Rattle.std.specs.declared.alloc.Global.{Global}
use Rattle.base_library.specs.Numbers.{is_among}
use Rattle.base_library.proofs.Numbers.{among_at, among_place}
use Rattle.depth_first_search.specs.Graphs.{graph_of, goes}
use Rattle.depth_first_search.specs.internal.Searches.{use_at, uses_count}

module _ (graph : List (List ℕ)) where
  pub goes_use : (i j : ℕ) → goes graph i j ≡ true → (k : ℕ) × (use_at graph i k ≡ Some j)
  goes_use i j = elim (slice_get graph i) as (λ o. option_map_or (λ js. is_among js j) o false ≡ true →
      (k : ℕ) × (option_and_then (λ js. slice_get js k) o ≡ Some j)) [
        | None ↦ λ h. absurd (false≢true h)
        | Some js ↦ among_place js j
      ]

  pub use_goes : (i k j : ℕ) → use_at graph i k ≡ Some j → goes graph i j ≡ true
  use_goes i k j = elim (slice_get graph i) as (λ o. option_and_then (λ js. slice_get js k) o ≡ Some j →
      option_map_or (λ js. is_among js j) o false ≡ true) [
        | None ↦ λ at. absurd (none-some j at)
        | Some js ↦ among_at js k j
      ]

  pub use_within : (i k j : ℕ) → use_at graph i k ≡ Some j → k < uses_count graph i
  use_within i k j = elim (slice_get graph i) as (λ o. option_and_then (λ js. slice_get js k) o ≡ Some j →
      k < option_map_or (λ js. length js) o 0) [
        | None ↦ λ at. absurd (none-some j at)
        | Some js ↦ slice_get_within js k j
      ]

pub rows_count : (rows : List (Vec ℕ Global)) → length (graph_of rows) ≡ length rows
rows_count [] = refl
rows_count (r ∷ rows) = ap suc (rows_count rows)
