-- A number that is written in decimal digits is read as itself, and has one spelling without leading zeros.
use Rattle.std.proofs.Common.{◌≡◌, ℕ, ◌+◌, ◌-◌, ◌*◌, ◌/◌, ◌%◌, ◌^◌, ◌<◌, ◌≤◌, Bool, true, false, cond, ◌&&◌, leb, eqb, List, [], ◌∷◌, ◌++◌, length, get_or, decimal, Some, None, refl, sym, ap, ◌∙◌, arith}
use Rattle.std.specs.Prelude.{fold}
use Rattle.std.specs.Char.{is_ascii_digit}
use Rattle.std.specs.List.{list_all}
use Rattle.std.proofs.lemmas.Bool.{and_parts, and_from, leb-true, le-leb, ne_eqb}
use Rattle.std.proofs.lemmas.Fmt.{
  decimal_by_steps,
  decimal_injective,
  decimal_nonempty,
  digits_decimal,
  digits_value-decimal,
  decimal-digits_value,
  length-decimal-le,
}
use Rattle.std.proofs.lemmas.Str.Parse.{IsDigitsTest, FoldsDigits, IsNumeralModel, numerals_by_fold, digits_value_short}
use Rattle.tsl_text.specs.Lines.{has_bytes}
use Rattle.tsl_text.specs.Numbers.{is_digits, value_of, number_in, has_leading_zero, plain_number_in}
use Rattle.tsl_text.proofs.Fronts.{begins, one_run}

-- the digits of this crate are those of std
abbrev pub AreDigits : List ℕ → Type 0
AreDigits ds = list_all is_ascii_digit ds ≡ true

tests_digits : IsDigitsTest AreDigits
tests_digits = record {
  empty = refl;
  parts = λ c cs h.
      let parts = and_parts (is_ascii_digit c) (list_all is_ascii_digit cs) h in
      let range = and_parts (leb 48 c) (leb c 57) parts.0 in
      ((leb-true 48 c range.0, leb-true c 57 range.1), parts.1);
  more = λ c cs range rest. and_from (is_ascii_digit c) (list_all is_ascii_digit cs)
      (and_from (leb 48 c) (leb c 57) (le-leb 48 c range.0) (le-leb c 57 range.1)) rest;
}

folds_digits : FoldsDigits (λ n ds. fold (λ value digit. value * 10 + (digit - 48)) n ds)
folds_digits = record { empty = λ n. refl; more = λ n c cs range. refl }

pub numerals : IsNumeralModel AreDigits value_of
numerals = numerals_by_fold AreDigits tests_digits (λ n ds. fold (λ value digit. value * 10 + (digit - 48)) n ds) folds_digits

pub decimal_digits : (n : ℕ) → n < 2 ^ 64 → list_all is_ascii_digit (decimal n) ≡ true
decimal_digits n small = digits_decimal numerals n small

some_bytes : (ds : List ℕ) → 0 < length ds → has_bytes ds ≡ true
some_bytes [] some = absurd (omega arith)
some_bytes (d ∷ ds) some = refl

-- ---- no leading zero

record Plain (n : ℕ) (ds : List ℕ) : Type 0 where
  some : 0 < length ds
  plain : has_leading_zero ds ≡ false
  first : 0 < n → begins (λ d. eqb d 48) ds ≡ false

plain_more : (ds : List ℕ) (d : ℕ) → 0 < length ds → begins (λ d. eqb d 48) ds ≡ false →
    (has_leading_zero (ds ++ d ∷ []) ≡ false) × (begins (λ d. eqb d 48) (ds ++ d ∷ []) ≡ false)
plain_more [] d some first = absurd (omega arith)
plain_more (c ∷ []) d some first = (first, first)
plain_more (c ∷ e ∷ cs) d some first = (first, first)

decimal_plain : (n : ℕ) → n < 2 ^ 64 → Plain n (decimal n)
decimal_plain n small = decimal_by_steps Plain one more n small
  where
    one : (m : ℕ) → m < 10 → Plain m ((48 + m) ∷ [])
    one m few = record { some = omega arith; plain = refl; first = λ positive. ne_eqb (48 + m) 48 (λ e. omega arith) }

    more : (m : ℕ) (ds : List ℕ) → 10 ≤ m → Plain (m / 10) ds → Plain m (ds ++ (48 + m % 10) ∷ [])
    more m ds many h =
        let front = plain_more ds (48 + m % 10) h.some (h.first (omega arith)) in
        record { some = longer ds (48 + m % 10); plain = front.0; first = λ positive. front.1 }
      where
        longer : (xs : List ℕ) (d : ℕ) → 0 < length (xs ++ d ∷ [])
        longer [] d = omega arith
        longer (x ∷ xs) d = omega arith

-- ---- both directions

-- a number below 10 ^ 18 is read from its decimal text
pub decimal_is_read : (n : ℕ) → n < 10 ^ 18 → plain_number_in (decimal n) ≡ Some n
decimal_is_read n below =
    let small : n < 2 ^ 64 = omega arith in
    let digits : is_digits (decimal n) ≡ true =
    and_from (has_bytes (decimal n)) (list_all is_ascii_digit (decimal n)) (some_bytes (decimal n) (decimal_nonempty n small))
    (decimal_digits n small) in
    let few : leb (length (decimal n)) 18 ≡ true = le-leb (length (decimal n)) 18 (length-decimal-le 18 n (omega arith) below small) in
    ap (λ b. cond b None (number_in (decimal n))) (decimal_plain n small).plain
    ∙ (ap (λ b. cond b (Some (value_of (decimal n))) None) (and_from (is_digits (decimal n)) (leb (length (decimal n)) 18) digits few)
    ∙ ap Some (digits_value-decimal numerals n small))

-- and no other text without leading zeros is read as the number
pub read_is_decimal : (word : List ℕ) (n : ℕ) → plain_number_in word ≡ Some n → word ≡ decimal n
read_is_decimal word n e = by_zero (has_leading_zero word) refl e
  where
    lead : (ds : List ℕ) → has_leading_zero ds ≡ false → get_or ds 0 0 ≡ 48 → length ds ≡ 1
    lead [] h k = absurd (omega arith)
    lead (d ∷ []) h k = refl
    lead (d ∷ c ∷ ds) h k = let never : true ≡ false = sym (ap (λ b. eqb b 48) k) ∙ h in absurd cc

    by_test : (b : Bool) → (is_digits word && leb (length word) 18) ≡ b → has_leading_zero word ≡ false →
        cond b (Some (value_of word)) None ≡ Some n → word ≡ decimal n
    by_test false passed plain h = absurd cc
    by_test true passed plain h =
        let parts = and_parts (is_digits word) (leb (length word) 18) passed in
        let digits = and_parts (has_bytes word) (list_all is_ascii_digit word) parts.0 in
        let value : value_of word ≡ n = cc in
        let few : value_of word < 10 ^ 18 = digits_value_short numerals word 18 digits.1 (leb-true (length word) 18 parts.1) in
        sym (decimal-digits_value numerals word digits.1 (has_length word digits.0) (lead word plain) (omega (arith, few))) ∙ ap decimal value
      where
        has_length : (ds : List ℕ) → has_bytes ds ≡ true → 0 < length ds
        has_length [] h = absurd cc
        has_length (d ∷ ds) h = omega arith

    by_zero : (b : Bool) → has_leading_zero word ≡ b → cond b None (number_in word) ≡ Some n → word ≡ decimal n
    by_zero true plain h = absurd cc
    by_zero false plain h = by_test (is_digits word && leb (length word) 18) refl plain h

-- a number ends where no digit follows
pub one_number : (m n : ℕ) (u v : List ℕ) → m < 2 ^ 64 → n < 2 ^ 64 → begins is_ascii_digit u ≡ false → begins is_ascii_digit v ≡ false →
    decimal m ++ u ≡ decimal n ++ v → (m ≡ n) × (u ≡ v)
one_number m n u v p q h k e =
    let run = one_run is_ascii_digit (decimal m) (decimal n) u v (decimal_digits m p) (decimal_digits n q) h k e in
    (decimal_injective m n p q run.0, run.1)
