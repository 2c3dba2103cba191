-- The names that an interpretation is for, and names that stand twice.
use Rattle.std.specs.Prelude.{◌≡◌, ℕ, ◌<◌, ◌==◌, Bool, not, ◌&&◌, List, ◌++◌, length, filter, Option, Some, slice_get}
use Rattle.base_library.specs.Numbers.{numbers_from}
use Rattle.base_library.specs.Options.{passes}
use Rattle.tsl_terms.specs.Name.{Name, number_of}
use Rattle.tsl_terms.specs.Equality.{is_equality}
use Rattle.table_syntax.specs.Syntax.{TextToken, has_table}

-- whether the number is that of a function, or of a predicate other than equality
abbrev pub is_symbol_number : List Name → ℕ → Bool
is_symbol_number names id = passes (λ n. has_table n.kind) (slice_get names id) && not (is_equality names id)

-- the names that are needed: these functions and predicates by their numbers, and then the cells
abbrev pub needed : List Name → List ℕ → List ℕ
needed names cells = filter (is_symbol_number names) (numbers_from 0 (length names)) ++ cells

-- the number of the name that a terminal spells
abbrev pub number_for : List Name → TextToken → Option ℕ
number_for names x = number_of names x.text

-- whether a terminal spells the name with this number
abbrev pub is_for : List Name → ℕ → TextToken → Bool
is_for names id x = passes (λ n. n == id) (number_for names x)

-- what stands at this place stands at an earlier one too
pub record IsRepeat {A : Type 0} (xs : List A) (at : ℕ) : Type 0 where
  pub earlier : ℕ
  pub before : earlier < at
  pub member : A
  pub first : slice_get xs earlier ≡ Some member
  pub again : slice_get xs at ≡ Some member

-- the first such place
pub record IsFirstRepeat {A : Type 0} (xs : List A) (at : ℕ) : Type 0 where
  pub repeat : IsRepeat xs at
  pub none_before : (i : ℕ) → i < at → IsRepeat xs i → ⊥

abbrev pub HasNoRepeat : {A : Type 0} → List A → Type 0
HasNoRepeat xs = (at : ℕ) → IsRepeat xs at → ⊥
