-- Numbers that are 0, words that mean 0, and lists that are split at zeros.
use Rattle.std.proofs.Common.{◌≡◌, ℕ, zero, suc, ◌+◌, ◌-◌, ◌*◌, ◌<◌, ◌≤◌, Bool, true, false, not, cond, eqb, leb, ◌&&◌, ℤ, pos, List}
use Rattle.std.proofs.Common.{[], ◌∷◌, ◌++◌, length, Option, Some, None, sym, ap, ◌∙◌, refl, arith, append_assoc, append-nil}
use Rattle.std.specs.Prelude.{count_by, fold, option_map, option_and_then}
use Rattle.std.specs.List.{slice_split, onto_first, list_all}
use Rattle.std.specs.Char.{is_ascii_digit}
use Rattle.std.proofs.lemmas.Bool.{and_parts, false≢true, leb-true, eqb-false}
use Rattle.std.proofs.lemmas.List.Sums.{sum_by-cons}
use Rattle.base_library.specs.Options.{passes}
use Rattle.tsl_text.specs.Numbers.{is_digits, value_of, number_in, opposite, signed_number_in}
use Rattle.refutation_check.specs.Numbers.{is_zero}
use Rattle.refutation_check.specs.internal.Reading.{begins_with_zero}

-- ---- lists split at zeros

-- parts, the first with these members before it
abbrev pub onto_front : List ℤ → List (List ℤ) → List (List ℤ)
onto_front ns [] = ns ∷ []
onto_front ns (part ∷ parts) = (ns ++ part) ∷ parts

pub onto_front-nil : (ns : List ℤ) → onto_front [] (slice_split is_zero ns) ≡ slice_split is_zero ns
onto_front-nil [] = refl
onto_front-nil (n ∷ ns) = by_test (is_zero n) (slice_split is_zero ns)
  where
    by_test : (b : Bool) (parts : List (List ℤ)) →
        onto_front [] (cond b ([] ∷ parts) (onto_first n parts)) ≡ cond b ([] ∷ parts) (onto_first n parts)
    by_test true parts = refl
    by_test false [] = refl
    by_test false (part ∷ parts) = refl

pub onto_front-first : (ns : List ℤ) (n : ℤ) (parts : List (List ℤ)) → onto_front ns (onto_first n parts) ≡ onto_front (ns ++ n ∷ []) parts
onto_front-first ns n [] = refl
onto_front-first ns n (part ∷ parts) = ap (λ first. first ∷ parts) (sym (append_assoc ns (n ∷ []) part))

-- no member is 0
abbrev pub has_no_zero : List ℤ → Bool
has_no_zero ns = list_all (λ n. not (is_zero n)) ns

pub split_front : (xs ys : List ℤ) → has_no_zero xs ≡ true → slice_split is_zero (xs ++ ys) ≡ onto_front xs (slice_split is_zero ys)
split_front [] ys h = sym (onto_front-nil ys)
split_front (x ∷ xs) ys h =
    let parts = and_parts (not (is_zero x)) (has_no_zero xs) h in
    ap (λ s. cond (is_zero x) ([] ∷ s) (onto_first x s)) (split_front xs ys parts.1) ∙ by_test (is_zero x) parts.0 (slice_split is_zero ys)
  where
    by_test : (b : Bool) → not b ≡ true → (parts : List (List ℤ)) →
        cond b ([] ∷ onto_front xs parts) (onto_first x (onto_front xs parts)) ≡ onto_front (x ∷ xs) parts
    by_test true e parts = absurd (false≢true e)
    by_test false e [] = refl
    by_test false e (part ∷ parts) = refl

pub split_at_zero : (xs ys : List ℤ) → has_no_zero xs ≡ true → slice_split is_zero (xs ++ pos 0 ∷ ys) ≡ xs ∷ slice_split is_zero ys
split_at_zero xs ys h = split_front xs (pos 0 ∷ ys) h ∙ ap (λ first. first ∷ slice_split is_zero ys) (append-nil xs)

pub zeros_more : (n : ℤ) (ns : List ℤ) → count_by is_zero (n ∷ ns) ≡ cond (is_zero n) 1 0 + count_by is_zero ns
zeros_more n ns = sum_by-cons (λ m. cond (is_zero m) 1 0) n ns

-- another number is in the part that the first ones begin
pub split_behind : (xs : List ℤ) (n : ℤ) (ns : List ℤ) → has_no_zero xs ≡ true → is_zero n ≡ false →
    slice_split is_zero (xs ++ n ∷ ns) ≡ onto_front (xs ++ n ∷ []) (slice_split is_zero ns)
split_behind xs n ns h e =
    split_front xs (n ∷ ns) h
    ∙ (ap (λ b. onto_front xs (cond b ([] ∷ slice_split is_zero ns) (onto_first n (slice_split is_zero ns)))) e
    ∙ onto_front-first xs n (slice_split is_zero ns))

-- ---- words that mean 0

-- more digits make no number smaller
at_least : (n : ℕ) (ds : List ℕ) → n ≤ fold (λ value digit. value * 10 + (digit - 48)) n ds
at_least n [] = omega arith
at_least n (d ∷ ds) = let rest = at_least (n * 10 + (d - 48)) ds in omega arith

no_opposite_is_zero : (o : Option ℕ) → passes is_zero (option_and_then opposite o) ≡ false
no_opposite_is_zero None = refl
no_opposite_is_zero (Some zero) = refl
no_opposite_is_zero (Some (suc n)) = refl

-- a word that means 0 begins with a `0`
pub other_than_zero : (word : List ℕ) → begins_with_zero word ≡ false → passes is_zero (signed_number_in word) ≡ false
other_than_zero [] h = refl
other_than_zero (b ∷ bs) h = by_sign (eqb b 45)
  where
    positive : (n : ℕ) → 0 < n → is_zero (pos n) ≡ false
    positive zero some = absurd (omega arith)
    positive (suc n) some = refl

    by_digits : (t : Bool) → (is_digits (b ∷ bs) && leb (length (b ∷ bs)) 18) ≡ t →
        passes is_zero (option_map pos (cond t (Some (value_of (b ∷ bs))) None)) ≡ false
    by_digits false e = refl
    by_digits true e =
        let digits = (and_parts (is_digits (b ∷ bs)) (leb (length (b ∷ bs)) 18) e).0 in
        let first = and_parts (is_ascii_digit b) (list_all is_ascii_digit bs) digits in
        let above : 48 ≤ b = leb-true 48 b (and_parts (leb 48 b) (leb b 57) first.0).0 in
        let other : b ≡ 48 → ⊥ = eqb-false b 48 h in
        positive (value_of (b ∷ bs)) (let more = at_least (0 * 10 + (b - 48)) bs in omega arith)

    by_sign : (t : Bool) → passes is_zero (cond t (option_and_then opposite (number_in bs)) (option_map pos (number_in (b ∷ bs)))) ≡ false
    by_sign true = no_opposite_is_zero (number_in bs)
    by_sign false = by_digits (is_digits (b ∷ bs) && leb (length (b ∷ bs)) 18) refl
