-- The names of a text's tokens are usable where they are no reserved words.
use Rattle.std.proofs.Common.{◌≡◌, ℕ, true, false, List, [], ◌∷◌, refl, arith}
use Rattle.std.proofs.lemmas.Grind.{common_steps}
use Rattle.std.specs.Prelude.{Option, Some, None, IsTrue}
use Rattle.std.specs.List.{AllByRecursion}
use Rattle.std.proofs.lemmas.List.Elements.{recursion_from_All}
use Rattle.tsl_text.specs.declared.Token.{Token}
use Rattle.tsl_text.specs.declared.TokenKind.{TokenKind}
use Rattle.tsl_text.specs.declared.TokenKind.TheVariants.{Name}
use Rattle.tsl_text.specs.Division.{AreTokens, IsTokenOf}
use Rattle.tsl_text.specs.Lexeme.{IsTokenText, lexeme_from, token_text}
use Rattle.tsl_text.proofs.Parts.{each_token}
use Rattle.tsl_text.specs.Names.{is_name_text, is_reserved, is_usable}
use Rattle.spec_syntax.specs.declared.syntax.Word.{Word}
use Rattle.spec_syntax.specs.Syntax.{Terminal, free, word, mark, word_of, free_unless, terminal_of}
use Rattle.spec_syntax.specs.Texts.{terminal_at, terminals}
use Rattle.spec_syntax.specs.Written.{free_texts}

abbrev pub IsUsable : List ℕ → Type 0
IsUsable text = IsTrue (is_usable text)

-- the names among these terminals are usable
abbrev AreUsable : List Terminal → Type 0
AreUsable xs = AllByRecursion IsUsable (free_texts xs)

-- what is no word is not reserved
pub not_reserved : (text : List ℕ) → word_of text ≡ None → is_reserved text ≡ false
not_reserved text h = grind (arith, common_steps)

usable_name : (text : List ℕ) → is_name_text text ≡ true → (found : Option Word) → word_of text ≡ found →
    AreUsable (free_unless text found ∷ [])
usable_name text h None e = (rw (h, not_reserved text e) refl, tt)
usable_name text h (Some w) e = tt

usable_token : (kind : TokenKind) (text : List ℕ) → IsTokenText kind text → AreUsable (terminal_of (lexeme_from kind text) ∷ [])
usable_token Name text h = usable_name text h (word_of text) refl
usable_token _ text h = tt

in_front : (x : Terminal) (xs : List Terminal) → AreUsable (x ∷ []) → AreUsable xs → AreUsable (x ∷ xs)
in_front (free x) xs h k = (h.0, k)
in_front (word w) xs h k = k
in_front (mark m) xs h k = k

usable_each : (text : List ℕ) (tokens : List Token) → AllByRecursion (IsTokenOf text) tokens → AreUsable (terminals text tokens)
usable_each text [] h = tt
usable_each text (t ∷ tokens) h =
    in_front (terminal_at text t) (terminals text tokens) (usable_token t.kind (token_text text t) h.0.spelled)
    (usable_each text tokens h.1)

-- the names of a text are usable
pub usable_terminals : (text : List ℕ) (tokens : List Token) → AreTokens text tokens → AreUsable (terminals text tokens)
usable_terminals text tokens are = usable_each text tokens (recursion_from_All (IsTokenOf text) tokens (each_token text tokens are))
