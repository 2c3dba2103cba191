-- How a text divides into blanks, comments and tokens, and where it does not.
use Rattle.std.specs.Prelude.{◌≡◌, ℕ, ◌+◌, ◌<◌, ◌≤◌, List, [], ◌∷◌, ◌++◌, ◌⊎◌, length, IsTrue, codes, Result, Ok, Err}
use Rattle.tsl_text.specs.declared.TextError.{TextError}
use Rattle.tsl_text.specs.declared.TextError.TheVariants.{Byte, OpenComment, NoMemory}
use Rattle.tsl_text.specs.declared.Token.{Token}
use Rattle.tsl_text.specs.declared.TokenKind.{TokenKind}
use Rattle.tsl_text.specs.Lexeme.{Lexeme, lexeme_from, IsTokenText, token_text}
use Rattle.tsl_text.specs.Lines.{is_blank, HasNoLineFeed}
use Rattle.tsl_text.specs.Places.{IsLineEnd}

-- `//` and no line feed
abbrev pub IsLineComment : List ℕ → Type 0
IsLineComment text = (body : List ℕ) × (text ≡ codes "//" ++ body) × HasNoLineFeed body

-- these two bytes are no `/*` and no `*/`
abbrev pub IsNoMark : ℕ → ℕ → Type 0
IsNoMark first second = (first ∷ second ∷ [] ≡ codes "/*" → ⊥) × (first ∷ second ∷ [] ≡ codes "*/" → ⊥)

-- What follows a `/*` up to and with the `*/` that closes it.
pub data ClosesComment : List ℕ → Type 0 where
  -- the `*/`
  close : {text : List ℕ} → text ≡ codes "*/" → ClosesComment text
  -- a byte, and then what closes the comment
  skip : {text : List ℕ} → (first second : ℕ) (rest : List ℕ) → IsNoMark first second → ClosesComment (second ∷ rest) →
      text ≡ first ∷ second ∷ rest → ClosesComment text
  -- a comment within, and then what closes the outer one
  nest : {text : List ℕ} → (inner rest : List ℕ) → ClosesComment inner → ClosesComment rest → text ≡ codes "/*" ++ (inner ++ rest) →
      ClosesComment text

-- a comment from `/*` to the `*/` that closes it
abbrev pub IsBlockComment : List ℕ → Type 0
IsBlockComment text = (closing : List ℕ) × (text ≡ codes "/*" ++ closing) × ClosesComment closing

-- no token that the bytes and those after them begin with has more bytes
abbrev pub IsLongest : List ℕ → List ℕ → Type 0
IsLongest text after =
    (kind : TokenKind) (other more : List ℕ) → text ++ after ≡ other ++ more → IsTokenText kind other → length other ≤ length text

-- What a text divides into.
pub data Part : Type 0 where
  blank : (byte : ℕ) → Part
  comment : (text : List ℕ) → Part
  lexeme : (kind : TokenKind) (text : List ℕ) → Part

abbrev pub bytes_of : Part → List ℕ
bytes_of (blank byte) = byte ∷ []
bytes_of (comment text) = text
bytes_of (lexeme kind text) = text

-- The part may stand before these bytes: a line comment ends before a line feed or at the end, and a token is the longest.
abbrev pub Stands : Part → List ℕ → Type 0
Stands (blank byte) after = IsTrue (is_blank byte)
Stands (comment text) after = (IsLineComment text × IsLineEnd after) ⊎ IsBlockComment text
Stands (lexeme kind text) after = IsTokenText kind text × IsLongest text after

-- the text is these parts, one after another, and then the rest
abbrev pub Divides : List ℕ → List Part → List ℕ → Type 0
Divides text [] rest = text ≡ rest
Divides text (part ∷ parts) rest = (after : List ℕ) × (text ≡ bytes_of part ++ after) × Stands part after × Divides after parts rest

-- the tokens among the parts, the first of which stands at this offset
abbrev pub tokens_from : ℕ → List Part → List Token
tokens_from at [] = []
tokens_from at (blank byte ∷ parts) = tokens_from (at + 1) parts
tokens_from at (comment text ∷ parts) = tokens_from (at + length text) parts
tokens_from at (lexeme kind text ∷ parts) =
    record { kind = kind; start = at; end = at + length text } ∷ tokens_from (at + length text) parts

-- the tokens among the parts, without their places
abbrev pub lexemes_of : List Part → List Lexeme
lexemes_of [] = []
lexemes_of (blank byte ∷ parts) = lexemes_of parts
lexemes_of (comment text ∷ parts) = lexemes_of parts
lexemes_of (lexeme kind text ∷ parts) = lexeme_from kind text ∷ lexemes_of parts

-- the whole text divides into parts, and these are its tokens
pub record AreTokens (text : List ℕ) (tokens : List Token) : Type 0 where
  pub parts : List Part
  pub divides : Divides text parts []
  pub places : tokens ≡ tokens_from 0 parts

abbrev pub BeginsWith : List ℕ → List ℕ → Type 0
BeginsWith text front = (after : List ℕ) × (text ≡ front ++ after)

-- the first byte begins no blank, no comment and no token
pub record BeginsNothing (text : List ℕ) : Type 0 where
  pub byte : 0 < length text
  pub no_blank : (byte : ℕ) → IsTrue (is_blank byte) → BeginsWith text (byte ∷ []) → ⊥
  pub no_line_comment : BeginsWith text (codes "//") → ⊥
  pub no_block_comment : BeginsWith text (codes "/*") → ⊥
  pub no_token : (kind : TokenKind) (token : List ℕ) → IsTokenText kind token → BeginsWith text token → ⊥

-- the text begins a comment that is not closed in it
pub record IsUnclosed (text : List ℕ) : Type 0 where
  pub body : List ℕ
  pub opens : text ≡ codes "/*" ++ body
  pub not_closed : (closing : List ℕ) → ClosesComment closing → BeginsWith body closing → ⊥

-- Up to this offset the text divides into parts. There it has a byte that begins nothing.
pub record HasBadByte (text : List ℕ) (at : ℕ) : Type 0 where
  pub parts : List Part
  pub rest : List ℕ
  pub divides : Divides text parts rest
  pub place : at + length rest ≡ length text
  pub bad : BeginsNothing rest

-- Up to this offset the text divides into parts. There it has a comment that is not closed.
pub record HasOpenComment (text : List ℕ) (at : ℕ) : Type 0 where
  pub parts : List Part
  pub rest : List ℕ
  pub divides : Divides text parts rest
  pub place : at + length rest ≡ length text
  pub unclosed : IsUnclosed rest

-- what the tokens of a text are, or its first fault
abbrev pub IsAnswer : List ℕ → Result (List Token) TextError → Type 0
IsAnswer text (Ok tokens) = AreTokens text tokens
IsAnswer text (Err (Byte at)) = HasBadByte text at
IsAnswer text (Err (OpenComment at)) = HasOpenComment text at
IsAnswer text (Err NoMemory) = ⊥

-- the fault is one of the text, unless memory ran out
abbrev pub HasFault : List ℕ → TextError → Type 0
HasFault text (Byte at) = HasBadByte text at
HasFault text (OpenComment at) = HasOpenComment text at
HasFault text NoMemory = Unit {0}

-- the token is not empty, stands within the text, and has bytes of its kind
pub record IsTokenOf (text : List ℕ) (token : Token) : Type 0 where
  pub not_empty : token.start < token.end
  pub inside : token.end ≤ length text
  pub spelled : IsTokenText token.kind (token_text text token)

-- the later token does not begin before the earlier one ends
abbrev pub StandsBefore : Token → Token → Type 0
StandsBefore earlier later = earlier.end ≤ later.start
