-- A text derives from one thing by a grammar, and from nothing where it has a fault.
use Rattle.std.proofs.Common.{length, ◌≡◌, ℕ, ◌<◌, ◌≤◌, List, subst, arith}
use Rattle.tsl_text.proofs.OneAnswer.{one_list}
use Rattle.reader_combinators.specs.Readers.{Reader}
use Rattle.reader_combinators.specs.Exact.{Exact}
use Rattle.reader_combinators.proofs.Whole.{one_value}
use Rattle.reader_combinators.proofs.Taken.{Never}
use Rattle.table_syntax.specs.Syntax.{TextToken, text_tokens, TablesSyntax, WordsSyntax, InputsSyntax}
use Rattle.table_syntax.specs.Grammar.{IsTables, tables, IsWords, words, IsInputs, inputs}
use Rattle.table_syntax.specs.Forms.{IsRead}
use Rattle.table_syntax.proofs.Exactness.{tables_exact, inputs_exact}
use Rattle.table_syntax.proofs.WordExactness.{words_exact}

module _ {V : Type 0} {Is : List TextToken → V → Type 0} {reader : Reader TextToken V} (exact : Exact (λ r. Is) Never 0 reader) where
  -- a text gives one thing
  pub one_given : (text : List ℕ) (a b : V) → IsRead Is text a → IsRead Is text b → a ≡ b
  one_given text a b h k =
      let same : h.tokens ≡ k.tokens = one_list text h.tokens k.tokens h.tokens_are k.tokens_are in
      one_value exact (text_tokens text k.tokens) a b (subst (λ tokens. Is (text_tokens text tokens) a) same h.derived) k.derived

pub same_tables : (text : List ℕ) (a b : TablesSyntax) → IsRead IsTables text a → IsRead IsTables text b → a ≡ b
same_tables text a b h k = one_given (tables_exact 0) text a b h k

pub same_words : (text : List ℕ) (a b : WordsSyntax) → IsRead IsWords text a → IsRead IsWords text b → a ≡ b
same_words text a b h k = one_given (words_exact 0) text a b h k

pub same_inputs : (text : List ℕ) (a b : InputsSyntax) → IsRead IsInputs text a → IsRead IsInputs text b → a ≡ b
same_inputs text a b h k = one_given (inputs_exact 0) text a b h k

-- the domain of a text of tables has a value
pub has_value : (text : List ℕ) (given : TablesSyntax) → IsRead IsTables text given → 1 ≤ given.domain
has_value text given h = by (text_tokens text h.tokens) given h.derived where
  by : (xs : List TextToken) (t : TablesSyntax) → IsTables xs t → 1 ≤ t.domain
  by xs t (tables a b c d n head one word number few entries) = few

-- the words of a text have a bit
pub has_bit : (text : List ℕ) (given : WordsSyntax) → IsRead IsWords text given → 1 ≤ given.bits
has_bit text given h = by (text_tokens text h.tokens) given h.derived where
  by : (xs : List TextToken) (t : WordsSyntax) → IsWords xs t → 1 ≤ t.bits
  by xs t (words a b c d n head one word number few entries) = few

-- the cycle of a text of inputs has a row
pub has_cycle : (text : List ℕ) (given : InputsSyntax) → IsRead IsInputs text given → 0 < length given.cycle
has_cycle text given h = by (text_tokens text h.tokens) given h.derived where
  by : (xs : List TextToken) (t : InputsSyntax) → IsInputs xs t → 0 < length t.cycle
  by xs t (inputs a b s c head one columns stem_word stem cycle_word cycle) = omega arith
