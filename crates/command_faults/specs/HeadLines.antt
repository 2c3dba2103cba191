-- Lines that part an input.
use Rattle.std.specs.Prelude.{◌≡◌, ℕ, ◌≤◌, List, take, drop}
use Rattle.tsl_text.specs.Places.{IsBetweenFeeds}

-- the first line of the text that equals this one begins at this offset
pub record IsFirstLineAt (text line : List ℕ) (at : ℕ) : Type 0 where
  pub is_line : IsBetweenFeeds text line at
  pub first : (other : ℕ) → IsBetweenFeeds text line other → at ≤ other

-- no line of the text equals this one
abbrev pub HasNoLine : List ℕ → List ℕ → Type 0
HasNoLine text line = (at : ℕ) → IsBetweenFeeds text line at → ⊥

-- all before the first line of the text that equals this one, and all from that line on
pub record IsCutBefore (text line before after : List ℕ) : Type 0 where
  pub at : ℕ
  pub first : IsFirstLineAt text line at
  pub before_is : before ≡ take at text
  pub after_is : after ≡ drop at text
