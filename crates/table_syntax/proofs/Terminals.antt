-- What single terminals are.
use Rattle.std.proofs.Common.{◌≡◌, ℕ, zero, suc, ◌≤◌, Bool, true, false, List, [], refl, ap, arith}
use Rattle.std.specs.Prelude.{Option, Some, None, option_and_then, codes, if◌then◌else◌}
use Rattle.tsl_terms.specs.declared.names.NameKind.{NameKind}
use Rattle.tsl_terms.specs.declared.names.NameKind.TheVariants.{Signal, Function, Predicate}
use Rattle.tsl_text.specs.declared.TokenKind.{TokenKind}
use Rattle.tsl_text.specs.declared.TokenKind.TheVariants as kinds
use Rattle.tsl_text.specs.Numbers.{number_in}
use Rattle.std.specs.Str.{bytes_eq}
use Rattle.std.proofs.lemmas.Bool.{and_parts}
use Rattle.base_library.proofs.Bytes.{same_bytes}
use Rattle.reader_combinators.proofs.Taken.{HasExample}
use Rattle.table_syntax.specs.Syntax.{is_name_kind, is_number_kind}
use Rattle.table_syntax.specs.Syntax.{TextToken, is_name_token, is_symbol, is_word, is_numeral, number_at}
use Rattle.table_syntax.specs.internal.Reading.{word_at, numeral_at, name_at, symbol_at, from_one, positive_at, kind_at}

pub word_if : (b : Bool) → (if b then Some (tt {0}) else None) ≡ Some (tt {0}) → b ≡ true
word_if true e = refl
word_if false e = cc

pub word_is : (w : List ℕ) (x : TextToken) → word_at w x ≡ Some (tt {0}) → is_word w x ≡ true
word_is w x e = word_if (is_word w x) e

pub word_taken : (w : List ℕ) (x : TextToken) → is_word w x ≡ true → word_at w x ≡ Some (tt {0})
word_taken w x e = ap (λ b. if b then Some (tt {0}) else None) e

pub numeral_is : (w : List ℕ) (x : TextToken) → numeral_at w x ≡ Some (tt {0}) → is_numeral w x ≡ true
numeral_is w x e = word_if (is_numeral w x) e

pub numeral_taken : (w : List ℕ) (x : TextToken) → is_numeral w x ≡ true → numeral_at w x ≡ Some (tt {0})
numeral_taken w x e = ap (λ b. if b then Some (tt {0}) else None) e

pub itself_if : (b : Bool) (x y : TextToken) → (if b then Some x else None) ≡ Some y → (b ≡ true) × (y ≡ x)
itself_if true x y e = (refl, cc)
itself_if false x y e = cc

pub name_is : (x y : TextToken) → name_at x ≡ Some y → (is_name_token x ≡ true) × (y ≡ x)
name_is x y e = itself_if (is_name_token x) x y e

pub name_taken : (x : TextToken) → is_name_token x ≡ true → name_at x ≡ Some x
name_taken x e = ap (λ b. if b then Some x else None) e

pub symbol_is : (x y : TextToken) → symbol_at x ≡ Some y → (is_symbol x ≡ true) × (y ≡ x)
symbol_is x y e = itself_if (is_symbol x) x y e

pub symbol_taken : (x : TextToken) → is_symbol x ≡ true → symbol_at x ≡ Some x
symbol_taken x e = ap (λ b. if b then Some x else None) e

pub from_one_is : (o : Option ℕ) (n : ℕ) → option_and_then from_one o ≡ Some n → (o ≡ Some n) × (1 ≤ n)
from_one_is None n e = cc
from_one_is (Some zero) n e = cc
from_one_is (Some (suc m)) n e =
    let same : suc m ≡ n = cc in
    (ap (λ k. Some k) same, omega (arith, same))

pub from_one_taken : (n : ℕ) → 1 ≤ n → from_one n ≡ Some n
from_one_taken zero few = absurd (omega (arith, few))
from_one_taken (suc n) few = refl

-- two words are never one
pub words_differ : (v w : List ℕ) → bytes_eq v w ≡ false → (x : TextToken) → is_word v x ≡ true → is_word w x ≡ false
words_differ v w differ x e =
    let parts = and_parts (is_name_token x) (bytes_eq x.text v) e in
    let text : x.text ≡ v = same_bytes x.text v parts.1 in
    rw (parts.0, text) differ

pub word_is_name : (w : List ℕ) (x : TextToken) → is_word w x ≡ true → is_name_token x ≡ true
word_is_name w x e = (and_parts (is_name_token x) (bytes_eq x.text w) e).0

-- a name is no number
pub name_no_number : (x : TextToken) → is_name_token x ≡ true → number_at x ≡ None
name_no_number x e = by x.token.kind e where
  by : (kind : TokenKind) → is_name_kind kind ≡ true → (if is_number_kind kind then number_in x.text else None) ≡ None
  by kinds.Name e = refl
  by kind e = cc

-- what an entry is for, by its word
abbrev pub word_of_kind : NameKind → List ℕ
word_of_kind Function = codes "func"
word_of_kind Predicate = codes "pred"
word_of_kind Signal = codes "cell"

pub kind_is : (x : TextToken) (kind : NameKind) → kind_at x ≡ Some kind → is_word (word_of_kind kind) x ≡ true
kind_is x kind e = by (is_word (codes "func") x) refl (is_word (codes "pred") x) refl (is_word (codes "cell") x) refl kind e where
  by : (f : Bool) → is_word (codes "func") x ≡ f → (p : Bool) → is_word (codes "pred") x ≡ p → (c : Bool) → is_word (codes "cell") x ≡ c →
      (kind : NameKind) → (if f then Some Function else (if p then Some Predicate else (if c then Some Signal else None))) ≡ Some kind →
      is_word (word_of_kind kind) x ≡ true
  by true f p g c h Function e = f
  by false f true g c h Predicate e = g
  by false f false g true h Signal e = h
  by is_f f is_p g is_c h kind e = cc

pub kind_taken : (x : TextToken) (kind : NameKind) → is_word (word_of_kind kind) x ≡ true → kind_at x ≡ Some kind
kind_taken x Function e = rw e refl
kind_taken x Predicate e = rw (words_differ (codes "pred") (codes "func") refl x e, e) refl
kind_taken x Signal e =
    rw (words_differ (codes "cell") (codes "func") refl x e, words_differ (codes "cell") (codes "pred") refl x e, e) refl

-- ---- terminals for examples

abbrev pub name_example : List ℕ → TextToken
name_example text = record { token = record { kind = kinds.Name; start = 0; end = 0 }; text = text }

abbrev pub number_example : TextToken
number_example = record { token = record { kind = kinds.Number; start = 0; end = 0 }; text = codes "1" }

pub has_number : HasExample number_at
has_number = record { example = number_example; result = 1; is = refl }

pub has_name : HasExample name_at
has_name = record { example = name_example []; result = name_example []; is = refl }

pub has_symbol : HasExample symbol_at
has_symbol = record { example = name_example []; result = name_example []; is = refl }

pub has_kind : HasExample kind_at
has_kind = record { example = name_example (codes "func"); result = Function; is = refl }

pub has_word : (w : List ℕ) → bytes_eq w w ≡ true → HasExample (word_at w)
has_word w e = record { example = name_example w; result = tt; is = word_taken w (name_example w) e }

pub has_one : HasExample (numeral_at (codes "1"))
has_one = record { example = number_example; result = tt; is = refl }

pub has_positive : HasExample positive_at
has_positive = record { example = number_example; result = 1; is = refl }
