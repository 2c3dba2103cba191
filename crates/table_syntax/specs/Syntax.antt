-- What texts of tables, of words and of inputs are made of.
use Rattle.std.specs.Prelude.{ℕ, Bool, true, false, ◌&&◌, ◌||◌, List, [], ◌∷◌, map, codes, Option, Some, None, if◌then◌else◌}
use Rattle.std.specs.Str.{bytes_eq}
use Rattle.tsl_text.specs.declared.Token.{Token}
use Rattle.tsl_text.specs.declared.TokenKind.{TokenKind}
use Rattle.tsl_text.specs.declared.TokenKind.TheVariants.{Name, Number, Question}
use Rattle.tsl_text.specs.Lexeme.{token_text}
use Rattle.tsl_text.specs.Numbers.{number_in}
use Rattle.tsl_terms.specs.declared.names.NameKind.{NameKind}
use Rattle.tsl_terms.specs.declared.names.NameKind.TheVariants.{Signal, Function, Predicate}
use Rattle.table_syntax.specs.declared.words.Operation.{Operation as WordOperation}
use Rattle.table_syntax.specs.declared.words.Operation.TheVariants as operation
use Rattle.table_syntax.specs.declared.words.Test.{Test as WordTest}
use Rattle.table_syntax.specs.declared.words.Test.TheVariants as test
use Rattle.table_syntax.specs.declared.words.Given.{Given}
use Rattle.table_syntax.specs.declared.words.Given.TheVariants as given

-- A terminal of the grammars: a token with its bytes.
pub record TextToken : Type 0 where
  pub token : Token
  pub text : List ℕ

abbrev pub text_token_at : List ℕ → Token → TextToken
text_token_at text token = record { token = token; text = token_text text token }

-- the terminals of a text with these tokens
abbrev pub text_tokens : List ℕ → List Token → List TextToken
text_tokens text tokens = map (text_token_at text) tokens

abbrev pub is_name_kind : TokenKind → Bool
is_name_kind Name = true
is_name_kind _ = false

abbrev pub is_number_kind : TokenKind → Bool
is_number_kind Number = true
is_number_kind _ = false

abbrev pub is_question_kind : TokenKind → Bool
is_question_kind Question = true
is_question_kind _ = false

-- a name; every word may be one
abbrev pub is_name_token : TextToken → Bool
is_name_token x = is_name_kind x.token.kind

-- what the entry of a function or a predicate may be for: a name, or `?`
abbrev pub is_symbol : TextToken → Bool
is_symbol x = is_name_kind x.token.kind || is_question_kind x.token.kind

-- the name with these bytes
abbrev pub is_word : List ℕ → TextToken → Bool
is_word word x = is_name_token x && bytes_eq x.text word

-- the number with these digits
abbrev pub is_numeral : List ℕ → TextToken → Bool
is_numeral digits x = is_number_kind x.token.kind && bytes_eq x.text digits

-- what a number means: at most 18 digits, with leading zeros or without
abbrev pub number_at : TextToken → Option ℕ
number_at x = if is_number_kind x.token.kind then number_in x.text else None

-- whether entries of a kind have tables: those of functions and of predicates
abbrev pub has_table : NameKind → Bool
has_table Signal = false
has_table _ = true

-- An entry: for a function, a predicate or, as a signal, a cell; the name; and the numbers after it.
pub record Entry : Type 0 where
  pub kind : NameKind
  pub name : TextToken
  pub numbers : List ℕ

-- a text of tables
pub record TablesSyntax : Type 0 where
  pub domain : ℕ
  pub entries : List Entry

-- what one of these words stands for
abbrev pub meaning_in : {A : Type 0} → List (List ℕ × A) → TextToken → Option A
meaning_in [] x = None
meaning_in (w ∷ ws) x = if is_word w.0 x then Some w.1 else meaning_in ws x

-- the words of operations on words of a width
abbrev pub operation_words : List (List ℕ × WordOperation)
operation_words =
    (codes "add", operation.Add) ∷ (codes "sub", operation.Sub) ∷ (codes "mul", operation.Mul)
    ∷ (codes "and", operation.And) ∷ (codes "or", operation.Or) ∷ (codes "xor", operation.Xor) ∷ (codes "not", operation.Not)
    ∷ (codes "inc", operation.Inc) ∷ (codes "dec", operation.Dec) ∷ (codes "shl", operation.Shl) ∷ (codes "shr", operation.Shr) ∷ []

-- the words of tests
abbrev pub test_words : List (List ℕ × WordTest)
test_words =
    (codes "less", test.Less) ∷ (codes "atmost", test.AtMost) ∷ (codes "zero", test.Zero) ∷ (codes "odd", test.Odd)
    ∷ (codes "nonzero", test.Nonzero) ∷ []

-- the operation and the test that a terminal stands for
abbrev pub operation_at : TextToken → Option WordOperation
operation_at = meaning_in operation_words

abbrev pub test_at : TextToken → Option WordTest
test_at = meaning_in test_words

-- An entry of a text of words: a name, and what is given for it.
pub record WordEntry : Type 0 where
  pub name : TextToken
  pub given : Given

-- what an entry is for, by what it gives: a function, a predicate or, as a signal, a cell
abbrev pub kind_of : Given → NameKind
kind_of (given.Operation o) = Function
kind_of (given.Test t) = Predicate
kind_of (given.Value n) = Signal

-- a text of words: how many bits they have, and the entries
pub record WordsSyntax : Type 0 where
  pub bits : ℕ
  pub entries : List WordEntry

-- a text of inputs: the names of the columns, and the rows of the stem and of the cycle
pub record InputsSyntax : Type 0 where
  pub names : List TextToken
  pub stem : List (List ℕ)
  pub cycle : List (List ℕ)
