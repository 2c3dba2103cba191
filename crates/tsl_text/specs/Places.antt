-- Places in a text: columns, and the pieces between its line feeds.
use Rattle.std.specs.Prelude.{◌≡◌, ℕ, ◌+◌, List, [], ◌∷◌, ◌++◌, ◌⊎◌, length}
use Rattle.tsl_text.specs.Lines.{HasNoLineFeed}

-- a line begins after these bytes: they are none, or the last of them is a line feed
abbrev pub IsLineStart : List ℕ → Type 0
IsLineStart before = (before ≡ []) ⊎ ((lines : List ℕ) × (before ≡ lines ++ 10 ∷ []))

-- a line ends before these bytes: they are none, or the first of them is a line feed
abbrev pub IsLineEnd : List ℕ → Type 0
IsLineEnd [] = Unit {0}
IsLineEnd (byte ∷ rest) = byte ≡ 10

-- At this offset of the text the piece stands between line feeds, or between one of them and an end of the text. The
-- pieces are the lines of the text, and an empty one after a final line feed or in an empty text.
pub record IsBetweenFeeds (text piece : List ℕ) (at : ℕ) : Type 0 where
  pub before : List ℕ
  pub after : List ℕ
  pub split : text ≡ before ++ (piece ++ after)
  pub place : length before ≡ at
  pub begins : IsLineStart before
  pub ends : IsLineEnd after
  pub whole : HasNoLineFeed piece

-- The column after these bytes, counted from 1: one more than the bytes of the last line among them.
pub record IsColumn (front : List ℕ) (column : ℕ) : Type 0 where
  pub lines : List ℕ
  pub line : List ℕ
  pub split : front ≡ lines ++ line
  pub begins : IsLineStart lines
  pub whole : HasNoLineFeed line
  pub count : column ≡ 1 + length line
