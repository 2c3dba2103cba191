-- What a token of each kind looks like.
use Rattle.std.specs.Prelude.{◌≡◌, ℕ, ◌-◌, List, IsTrue, take, drop, codes}
use Rattle.tsl_text.specs.Names.{is_name_text}
use Rattle.tsl_text.specs.Numbers.{is_digits}
use Rattle.tsl_text.specs.declared.Token.{Token}
use Rattle.tsl_text.specs.declared.TokenKind.{TokenKind}
use Rattle.tsl_text.specs.declared.TokenKind.TheVariants.{
  Name,
  Number,
  OpenBrace,
  CloseBrace,
  OpenRound,
  CloseRound,
  OpenSquare,
  CloseSquare,
  Semicolon,
  Not,
  And,
  Or,
  Arrow,
  BothArrow,
  LeftArrow,
  Question,
  Equals,
}

-- A token without its place, for grammars: a name or a number with its bytes, or a symbol.
pub data Lexeme : Type 0 where
  name : (text : List ℕ) → Lexeme
  number : (text : List ℕ) → Lexeme
  symbol : (kind : TokenKind) → Lexeme

abbrev pub lexeme_from : TokenKind → List ℕ → Lexeme
lexeme_from Name text = name text
lexeme_from Number text = number text
lexeme_from kind text = symbol kind

-- the bytes are a token of this kind
abbrev pub IsTokenText : TokenKind → List ℕ → Type 0
IsTokenText Name text = IsTrue (is_name_text text)
IsTokenText Number text = IsTrue (is_digits text)
IsTokenText OpenBrace text = text ≡ codes "{"
IsTokenText CloseBrace text = text ≡ codes "}"
IsTokenText OpenRound text = text ≡ codes "("
IsTokenText CloseRound text = text ≡ codes ")"
IsTokenText OpenSquare text = text ≡ codes "["
IsTokenText CloseSquare text = text ≡ codes "]"
IsTokenText Semicolon text = text ≡ codes ";"
IsTokenText Not text = text ≡ codes "!"
IsTokenText And text = text ≡ codes "&&"
IsTokenText Or text = text ≡ codes "||"
IsTokenText Arrow text = text ≡ codes "->"
IsTokenText BothArrow text = text ≡ codes "<->"
IsTokenText LeftArrow text = text ≡ codes "<-"
IsTokenText Question text = text ≡ codes "?"
IsTokenText Equals text = text ≡ codes "="

-- the bytes of a token that stands in the text
abbrev pub token_text : List ℕ → Token → List ℕ
token_text text token = take (token.end - token.start) (drop token.start text)

-- a token that stands in the text, without its place
abbrev pub lexeme_of : List ℕ → Token → Lexeme
lexeme_of text token = lexeme_from token.kind (token_text text token)
