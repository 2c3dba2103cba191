-- Internal: what stands at the front of a text, as functions that compute it.
use Rattle.std.specs.Prelude.{ℕ, ◌+◌, ◌-◌, ◌==◌, ◌&&◌, Bool, true, false, List, [], ◌∷◌, length, if◌then◌else◌, Option, Some, None, codes}
use Rattle.std.specs.Char.{is_ascii_digit}
use Rattle.std.specs.List.{prefix_len}
use Rattle.tsl_text.specs.declared.TokenKind.{TokenKind}
use Rattle.tsl_text.specs.declared.TokenKind.TheVariants.{
  Name,
  Number,
  OpenBrace,
  CloseBrace,
  OpenRound,
  CloseRound,
  OpenSquare,
  CloseSquare,
  Semicolon,
  Not,
  And,
  Or,
  Arrow,
  BothArrow,
  LeftArrow,
  Question,
  Equals,
}
use Rattle.tsl_text.specs.declared.front.Piece.{Piece}
use Rattle.tsl_text.specs.declared.front.Piece.TheVariants.{Gap, Longest, OpenComment, Nothing}
use Rattle.tsl_text.specs.Names.{is_name_start, is_name_byte}
use Rattle.tsl_text.specs.Lines.{is_blank, is_line_byte}

-- the tokens that are written in one way, each before those that it begins with
abbrev pub symbols : List (TokenKind × List ℕ)
symbols = (OpenBrace, codes "{") ∷ (CloseBrace, codes "}") ∷ (OpenRound, codes "(") ∷ (CloseRound, codes ")")
    ∷ (OpenSquare, codes "[") ∷ (CloseSquare, codes "]") ∷ (Semicolon, codes ";") ∷ (Not, codes "!") ∷ (Question, codes "?")
    ∷ (Equals, codes "=") ∷ (And, codes "&&") ∷ (Or, codes "||") ∷ (Arrow, codes "->") ∷ (BothArrow, codes "<->")
    ∷ (LeftArrow, codes "<-") ∷ []

-- whether these bytes stand at the front
abbrev pub begins_with : List ℕ → List ℕ → Bool
begins_with [] text = true
begins_with (byte ∷ bytes) [] = false
begins_with (byte ∷ bytes) (first ∷ rest) = (first == byte) && begins_with bytes rest

-- the first of these symbols that stands at the front
abbrev pub first_symbol : List (TokenKind × List ℕ) → List ℕ → Piece
first_symbol [] text = Nothing
first_symbol (symbol ∷ more) text = if begins_with symbol.1 text then Longest symbol.0 (length symbol.1) else first_symbol more text

-- the longest symbol at the front
abbrev pub symbol_of : List ℕ → Piece
symbol_of text = first_symbol symbols text

-- the bytes are `/*`
abbrev pub begins_comment : ℕ → ℕ → Bool
begins_comment first second = (first == 47) && (second == 42)

-- the bytes are `*/`
abbrev pub ends_comment : ℕ → ℕ → Bool
ends_comment first second = (first == 42) && (second == 47)

-- what is left after the `*/` of a comment, within which so many others are open
abbrev pub after_comment : ℕ → List ℕ → Option (List ℕ)
after_comment depth [] = None
after_comment depth (byte ∷ []) = None
after_comment depth (first ∷ second ∷ rest) =
    if ends_comment first second then (if depth == 0 then Some rest else after_comment (depth - 1) rest)
    else (if begins_comment first second then after_comment (depth + 1) rest
    else after_comment depth (second ∷ rest))

-- a comment whose text after its `/*` is this, and what is left after it
abbrev pub gap_before : List ℕ → Option (List ℕ) → Piece
gap_before text None = OpenComment
gap_before text (Some after) = Gap (2 + (length text - length after))

-- what begins with `/`
abbrev pub comment_of : List ℕ → Piece
comment_of [] = Nothing
comment_of (second ∷ rest) =
    if second == 47 then Gap (2 + prefix_len is_line_byte rest)
    else (if second == 42 then gap_before rest (after_comment 0 rest)
    else Nothing)

-- what stands at the front
abbrev pub piece_of : List ℕ → Piece
piece_of [] = Nothing
piece_of (first ∷ rest) =
    if is_blank first then Gap 1
    else (if first == 47 then comment_of rest
    else (if is_name_start first then Longest Name (1 + prefix_len is_name_byte rest)
    else (if is_ascii_digit first then Longest Number (1 + prefix_len is_ascii_digit rest)
    else symbol_of (first ∷ rest))))
