-- What is seen of a value in a row is what is seen of the value that stands there.
use Rattle.std.proofs.Common.{◌≡◌, ℕ, List, Option, Some, None, slice_get, refl}
use Rattle.std.specs.Prelude.{option_map, option_and_then}
use Rattle.tsl_terms.specs.Value.{beside}
use Rattle.interp_core.specs.declared.leaves.Leaves.{Leaves}
use Rattle.interp_core.specs.LeafValue.{leaf_value}
use Rattle.interp_core.specs.Image.{row_value}
use Rattle.interp_core.proofs.Besides.{beside-map}

-- what stands beside a signal in a row, if the row is there
abbrev pub beside_in : {V : Type 0} → List (Leaves V) → ℕ → ℕ → Option V
beside_in rows s step = option_and_then (λ leaves. beside s leaves.signals leaves.values) (slice_get rows step)

pub row_seen : {V S : Type 0} (seen : V → S) (rows : List (Leaves V)) (s step : ℕ) →
    row_value seen rows s step ≡ option_map seen (beside_in rows s step)
row_seen {V = V} seen rows s step = by (slice_get rows step)
  where
    by : (row : Option (Leaves V)) → option_and_then (λ leaves. leaf_value seen leaves s) row
        ≡ option_map seen (option_and_then (λ leaves. beside s leaves.signals leaves.values) row)
    by None = refl
    by (Some leaves) = beside-map seen s leaves.signals leaves.values
