-- Internal: only private functions of this crate use these words.
-- The columns of a text as entries for cells, and the places of the inputs' columns.
use Rattle.std.specs.Prelude.{◌≡◌, ℕ, List, map, Option, Some, slice_get, true, is_some, All, IsSomeAnd}
use Rattle.table_syntax.specs.Syntax.{InputsSyntax}
use Rattle.entry_names.specs.Entries.{Subject, column_subject_of}

abbrev pub columns_of : InputsSyntax → List Subject
columns_of given = map column_subject_of given.names

-- each input's column has a place
abbrev pub HavePlaces : List (Option ℕ) → List ℕ → Type 0
HavePlaces places inputs = All (λ id. IsSomeAnd (slice_get places id) (λ slot. is_some slot ≡ true)) inputs

-- these are the places
abbrev pub AreOrdered : List (Option ℕ) → List ℕ → List ℕ → Type 0
AreOrdered places inputs order = map (λ p. Some (Some p)) order ≡ map (slice_get places) inputs
