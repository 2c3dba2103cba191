-- What a source or a sink tells of its bytes: `Some bytes`, or `None` where it tells nothing.
use Rattle.std.specs.Prelude.{◌≡◌, ℕ, List, ◌++◌, length, take, Option, Some, None}

-- these bytes, and then the bytes that are told
abbrev pub before : List ℕ → Option (List ℕ) → Option (List ℕ)
before bytes None = None
before bytes (Some rest) = Some (bytes ++ rest)

-- the bytes that are told, and then these
abbrev pub with_added : List ℕ → Option (List ℕ) → Option (List ℕ)
with_added bytes None = None
with_added bytes (Some had) = Some (had ++ bytes)

-- a fact of the bytes, where they are told
abbrev pub WhereTold : Option (List ℕ) → (List ℕ → Type 0) → Type 0
WhereTold told P = (bytes : List ℕ) → told ≡ Some bytes → P bytes

-- some first bytes of what was left were taken
abbrev pub TakesPrefix : Option (List ℕ) → Option (List ℕ) → Type 0
TakesPrefix old new = (bytes : List ℕ) × (old ≡ before bytes new)

-- the first n bytes of what was left were taken
abbrev pub TakesFirst : ℕ → Option (List ℕ) → Option (List ℕ) → Type 0
TakesFirst n old new = (bytes : List ℕ) × (length bytes ≡ n) × (old ≡ before bytes new)

-- some first bytes of these were added
abbrev pub AddsPrefix : List ℕ → Option (List ℕ) → Option (List ℕ) → Type 0
AddsPrefix bytes old new = (n : ℕ) × (new ≡ with_added (take n bytes) old)
