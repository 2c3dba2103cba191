-- Tables with a slot for each number.
use Rattle.std.specs.Prelude.{◌≡◌, ℕ, ◌<◌, Bool, false, List, length, Option, Some, None, slice_get}
use Rattle.base_library.specs.Numbers.{is_among}
use Rattle.entry_names.specs.declared.numbering.RepeatFault.{RepeatFault}
use Rattle.entry_names.specs.declared.numbering.RepeatFault.TheVariants.{Repeat, NoMemory}
use Rattle.entry_names.specs.Needed.{IsFirstRepeat}

-- for each of so many numbers whether it is among these
pub record AreMarksOf (count : ℕ) (numbers : List ℕ) (marks : List Bool) : Type 0 where
  pub many : length marks ≡ count
  pub each : (n : ℕ) → n < count → slice_get marks n ≡ Some (is_among numbers n)

-- a place where a number stands, or none where it stands nowhere
abbrev pub IsPlace : List ℕ → ℕ → Option ℕ → Type 0
IsPlace numbers n (Some place) = slice_get numbers place ≡ Some n
IsPlace numbers n None = is_among numbers n ≡ false

-- for each of so many numbers a place where it stands
pub record ArePlaces (count : ℕ) (numbers : List ℕ) (places : List (Option ℕ)) : Type 0 where
  pub many : length places ≡ count
  pub each : (n : ℕ) → n < count → (slot : Option ℕ) × (slice_get places n ≡ Some slot) × IsPlace numbers n slot

-- the first place with a number that stands at an earlier one too
abbrev pub IsRepeatFault : List ℕ → RepeatFault → Type 0
IsRepeatFault numbers (Repeat at) = IsFirstRepeat numbers at
IsRepeatFault numbers NoMemory = Unit {0}
