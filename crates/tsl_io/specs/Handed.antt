-- Bytes of a source that were handed on to what takes a text.
use Rattle.std.specs.Prelude.{◌≡◌, ℕ, ◌≤◌, List, ◌++◌, length, Option}
use Rattle.tsl_io.specs.Told.{before}

-- the first n bytes of what was left were taken, and the text that had been taken goes on with them
abbrev pub HandsOn : ℕ → Option (List ℕ) → Option (List ℕ) → (List ℕ → Type 0) → (List ℕ → Type 0) → Type 0
HandsOn n old new had has =
    (bytes : List ℕ) × (length bytes ≡ n) × (old ≡ before bytes new) × ((text : List ℕ) → had text → has (text ++ bytes))

-- so many bytes at most
abbrev pub HandsOnAtMost : ℕ → Option (List ℕ) → Option (List ℕ) → (List ℕ → Type 0) → (List ℕ → Type 0) → Type 0
HandsOnAtMost most old new had has = (n : ℕ) × (n ≤ most) × HandsOn n old new had has
