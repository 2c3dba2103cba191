-- Numbers and runs of bytes are leaves.
use Rattle.std.proofs.Common.{◌≡◌, ℕ, ◌+◌, ◌^◌, ◌<◌, Bool, true, false, ◌&&◌, ◌||◌, cond, leb, List, [], ◌∷◌, ◌++◌, length, take}
use Rattle.std.proofs.Common.{drop, decimal, Option, Some, None, refl, sym, ap, subst, ◌∙◌, arith, take-append-drop}
use Rattle.std.specs.Prelude.{if◌then◌else◌}
use Rattle.std.specs.Char.{is_ascii_digit}
use Rattle.std.specs.List.{list_all, prefix_len}
use Rattle.std.proofs.Math.Seq.{take-append_seam, drop-append_seam}
use Rattle.std.proofs.lemmas.Bool.{and_parts, and_from, not-true, cond-true, cond-false, leb-true, lt-ltb, ltb-true}
use Rattle.std.proofs.lemmas.Option.{none-some, same_Some}
use Rattle.std.proofs.lemmas.Str.Parse.{digits_value_short}
use Rattle.std.proofs.lemmas.Fmt.{decimal_nonempty}
use Rattle.base_library.proofs.Passes.{list_all-prefix}
use Rattle.tsl_text.specs.Lines.{has_bytes, is_line_byte}
use Rattle.tsl_text.specs.Numbers.{is_digits, value_of, number_in, has_leading_zero, plain_number_in}
use Rattle.tsl_text.proofs.NumberLaws.{numerals, decimal_digits, decimal_is_read, read_is_decimal}
use Rattle.line_formats.specs.Format.{Bytes, one_byte, are_apart, has, stops}
use Rattle.line_formats.specs.Leaves.{digits, with_rest, number_of_length, first_number, number, run_of_length, first_run, run}
use Rattle.line_formats.proofs.FormatLaws.{First, IsLeaf, apart_byte}

-- ---- runs at the front

abbrev Ends : (ℕ → Bool) → List ℕ → Type 0
Ends p [] = Unit {0}
Ends p (b ∷ bs) = p b ≡ false

run_len : (p : ℕ → Bool) (front rest : List ℕ) → list_all p front ≡ true → Ends p rest → prefix_len p (front ++ rest) ≡ length front
run_len p [] [] all ends = refl
run_len p [] (y ∷ rest) all ends = cond-false (p y) (1 + prefix_len p rest) 0 ends
run_len p (x ∷ front) rest all ends =
    let parts = and_parts (p x) (list_all p front) all in
    let more : prefix_len p (front ++ rest) ≡ length front = run_len p front rest parts.1 ends in
    cond-true (p x) (1 + prefix_len p (front ++ rest)) 0 parts.0 ∙ omega arith

-- ---- runs of a set

stops_ends : (set : Bytes) (rest : List ℕ) → stops set rest ≡ true → Ends (has set) rest
stops_ends set [] h = tt
stops_ends set (b ∷ bs) h = not-true (has set b) h

pub run_is_leaf : (set : Bytes) (ok : List ℕ → Bool) → are_apart set (one_byte 10) ≡ true → IsLeaf (run set ok)
run_is_leaf set ok apart = record { sound = sound; first = first; again = again; no_feed = no_feed } where
  feedless : (v : List ℕ) → list_all (has set) v ≡ true → list_all is_line_byte v ≡ true
  feedless [] h = refl
  feedless (b ∷ bs) h =
      let parts = and_parts (has set b) (list_all (has set) bs) h in
      and_from (is_line_byte b) (list_all is_line_byte bs) (apart_byte set 10 b apart parts.0) (feedless bs parts.1)

  no_feed : (v : List ℕ) → (list_all (has set) v && ok v) ≡ true → list_all is_line_byte v ≡ true
  no_feed v h = feedless v (and_parts (list_all (has set) v) (ok v) h).0

  sound : (bytes : List ℕ) (r : List ℕ × List ℕ) → first_run set ok bytes ≡ Some r →
      (bytes ≡ r.0 ++ r.1) × ((list_all (has set) r.0 && ok r.0) ≡ true)
  sound bytes r h = by (ok (take (prefix_len (has set) bytes) bytes)) refl h where
    n : ℕ
    n = prefix_len (has set) bytes

    by : (b : Bool) → ok (take n bytes) ≡ b → (if b then Some (take n bytes, drop n bytes) else None) ≡ Some r →
        (bytes ≡ r.0 ++ r.1) × ((list_all (has set) r.0 && ok r.0) ≡ true)
    by true e k =
        let same : (take n bytes, drop n bytes) ≡ r = cc in
        subst (λ (z : List ℕ × List ℕ). (bytes ≡ z.0 ++ z.1) × ((list_all (has set) z.0 && ok z.0) ≡ true)) same (
          sym (take-append-drop n bytes),
          and_from (list_all (has set) (take n bytes)) (ok (take n bytes)) (list_all-prefix (has set) bytes) e,
        )
    by false e k = absurd cc

  first : (v : List ℕ) → (list_all (has set) v && ok v) ≡ true → First set (ok []) v
  first [] h = h
  first (b ∷ bs) h = (and_parts (has set b) (list_all (has set) bs) (and_parts (list_all (has set) (b ∷ bs)) (ok (b ∷ bs)) h).0).0

  again : (v : List ℕ) → (list_all (has set) v && ok v) ≡ true → (rest : List ℕ) → stops set rest ≡ true →
      first_run set ok (v ++ rest) ≡ Some (v, rest)
  again v h rest s =
      let parts = and_parts (list_all (has set) v) (ok v) h in
      let len = run_len (has set) v rest parts.0 (stops_ends set rest s) in
      let front : take (length v) (v ++ rest) ≡ v = take-append_seam v rest in
      let back : drop (length v) (v ++ rest) ≡ rest = drop-append_seam v rest in
      ap (λ k. run_of_length ok k (v ++ rest)) len
      ∙ (λ i. if ok (front i) then Some (front i, back i) else None)
      ∙ ap (λ b. if b then Some (v, rest) else None) parts.1

-- ---- numbers

-- a number that is read has at most 18 digits
pub read_is_short : (ds : List ℕ) (n : ℕ) → plain_number_in ds ≡ Some n → n < 10 ^ 18
read_is_short ds n e = by_zero (has_leading_zero ds) e where
  by_test : (b : Bool) → (is_digits ds && leb (length ds) 18) ≡ b → cond b (Some (value_of ds)) None ≡ Some n → n < 10 ^ 18
  by_test false passed h = absurd (none-some n h)
  by_test true passed h =
      let parts = and_parts (is_digits ds) (leb (length ds) 18) passed in
      let digits = and_parts (has_bytes ds) (list_all is_ascii_digit ds) parts.0 in
      let few : value_of ds < 10 ^ 18 = digits_value_short numerals ds 18 digits.1 (leb-true (length ds) 18 parts.1) in
      let P : ℕ → Type 0 = λ k. k < 10 ^ 18 in
      subst P (same_Some (value_of ds) n h) few

  by_zero : (b : Bool) → cond b None (number_in ds) ≡ Some n → n < 10 ^ 18
  by_zero true h = absurd (none-some n h)
  by_zero false h = by_test (is_digits ds && leb (length ds) 18) refl h

or_none : (b : Bool) → (b || false) ≡ b
or_none true = refl
or_none false = refl

digit_is : (b : ℕ) → has digits b ≡ is_ascii_digit b
digit_is b = or_none (leb 48 b && leb b 57)

stops_digits : (rest : List ℕ) → stops digits rest ≡ true → Ends is_ascii_digit rest
stops_digits [] h = tt
stops_digits (b ∷ bs) h = sym (digit_is b) ∙ not-true (has digits b) h

pub number_is_leaf : IsLeaf number
number_is_leaf = record { sound = sound; first = first; again = again; no_feed = no_feed } where
  feedless : (ds : List ℕ) → list_all is_ascii_digit ds ≡ true → list_all is_line_byte ds ≡ true
  feedless [] h = refl
  feedless (d ∷ ds) h =
      let parts = and_parts (is_ascii_digit d) (list_all is_ascii_digit ds) h in
      and_from (is_line_byte d) (list_all is_line_byte ds) (apart_byte digits 10 d refl (digit_is d ∙ parts.0)) (feedless ds parts.1)

  no_feed : (n : ℕ) → number.fits n ≡ true → list_all is_line_byte (decimal n) ≡ true
  no_feed n h =
      let few : n < 10 ^ 18 = ltb-true n (10 ^ 18) h in
      feedless (decimal n) (decimal_digits n (omega (arith, few)))

  sound : (bytes : List ℕ) (r : ℕ × List ℕ) → first_number bytes ≡ Some r → (bytes ≡ decimal r.0 ++ r.1) × (number.fits r.0 ≡ true)
  sound bytes r h = by (plain_number_in (take (prefix_len is_ascii_digit bytes) bytes)) refl h where
    n : ℕ
    n = prefix_len is_ascii_digit bytes

    by : (o : Option ℕ) → plain_number_in (take n bytes) ≡ o → with_rest o (drop n bytes) ≡ Some r →
        (bytes ≡ decimal r.0 ++ r.1) × (number.fits r.0 ≡ true)
    by None e k = absurd cc
    by (Some m) e k =
        let same : (m, drop n bytes) ≡ r = cc in
        subst (λ (z : ℕ × List ℕ). (bytes ≡ decimal z.0 ++ z.1) × (number.fits z.0 ≡ true)) same (
          sym (take-append-drop n bytes) ∙ ap (λ ds. ds ++ drop n bytes) (read_is_decimal (take n bytes) m e),
          lt-ltb m (10 ^ 18) (read_is_short (take n bytes) m e),
        )

  begun : (ds : List ℕ) → 0 < length ds → list_all is_ascii_digit ds ≡ true → First digits false ds
  begun [] some h = absurd (omega arith)
  begun (d ∷ ds) some h = digit_is d ∙ (and_parts (is_ascii_digit d) (list_all is_ascii_digit ds) h).0

  first : (n : ℕ) → number.fits n ≡ true → First digits false (decimal n)
  first n h =
      let few : n < 10 ^ 18 = ltb-true n (10 ^ 18) h in
      let small : n < 2 ^ 64 = omega (arith, few) in
      begun (decimal n) (decimal_nonempty n small) (decimal_digits n small)

  again : (n : ℕ) → number.fits n ≡ true → (rest : List ℕ) → stops digits rest ≡ true → first_number (decimal n ++ rest) ≡ Some (n, rest)
  again n h rest s =
      let few : n < 10 ^ 18 = ltb-true n (10 ^ 18) h in
      let small : n < 2 ^ 64 = omega (arith, few) in
      let len = run_len is_ascii_digit (decimal n) rest (decimal_digits n small) (stops_digits rest s) in
      let front : take (length (decimal n)) (decimal n ++ rest) ≡ decimal n = take-append_seam (decimal n) rest in
      let back : drop (length (decimal n)) (decimal n ++ rest) ≡ rest = drop-append_seam (decimal n) rest in
      ap (λ k. number_of_length k (decimal n ++ rest)) len
      ∙ (λ i. with_rest (plain_number_in (front i)) (back i))
      ∙ ap (λ o. with_rest o rest) (decimal_is_read n few)
