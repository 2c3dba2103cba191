-- Counts that are kept in a `u64` and stop at its last value.
use Rattle.std.specs.Prelude.{◌≡◌, ℕ, ◌+◌, ◌-◌, ◌^◌, ◌<◌, min, ◌⊎◌}

-- the last value of a count
abbrev pub last_count : ℕ
last_count = 2 ^ 64 - 1

-- one more, which stops at the last value
abbrev pub next_count : ℕ → ℕ
next_count n = min (n + 1) last_count

-- a fault was counted: the count rose, or it stood at its last value and stays there
abbrev pub Faulted : ℕ → ℕ → Type 0
Faulted old new = (old < new) ⊎ ((old ≡ last_count) × (new ≡ old))
