-- The values that leaves give to signals.
use Rattle.std.specs.Prelude.{ℕ, Option, map}
use Rattle.tsl_terms.specs.Value.{beside}
use Rattle.interp_core.specs.declared.leaves.Leaves.{Leaves}

-- what is seen of the value that stands beside a signal
abbrev pub leaf_value : {V S : Type 0} → (V → S) → Leaves V → ℕ → Option S
leaf_value seen leaves s = beside s leaves.signals (map seen leaves.values)
