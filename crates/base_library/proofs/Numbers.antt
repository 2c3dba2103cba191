-- Numbers among others, the numbers from a first one on, and lists in which no number stands twice.
use Rattle.std.proofs.Common.{
  ◌≡◌,
  ℕ,
  zero,
  suc,
  ◌+◌,
  ◌<◌,
  ◌≤◌,
  ◌==◌,
  Bool,
  true,
  false,
  ◌&&◌,
  ◌||◌,
  cond,
  List,
  [],
  ◌∷◌,
  ◌++◌,
  length,
  map,
  take,
  get_or,
  Some,
  None,
  slice_get,
  refl,
  sym,
  ap,
  ◌∙◌,
  subst,
  inl,
  inr,
  add-one,
  arith,
}
use Rattle.std.specs.Prelude.{nat_eq}
use Rattle.std.specs.Map.{lookup}
use Rattle.std.specs.List.{AllByRecursion, filter, flat_map}
use Rattle.std.proofs.lemmas.Bool.{false≢true, eq-eqb, eqb-true}
use Rattle.std.proofs.lemmas.Bool.Decides.{eqb_tells}
use Rattle.std.proofs.lemmas.List.{length-append}
use Rattle.std.proofs.lemmas.List.Folds.{list_any-append}
use Rattle.std.proofs.lemmas.Option.{slice_get-get_or}
use Rattle.std.proofs.Math.Bool.{or-true, or-false, and-false}
use Rattle.base_library.specs.Numbers.{is_among, IsDistinct, numbers_from}
use Rattle.base_library.proofs.Booleans.{eqb_self}
use Rattle.base_library.proofs.Places.{slice_get_grown, slice_get-append, slice_get-take}
use Rattle.base_library.proofs.Passes.{filter_push}

-- what stands among others
pub among_first : (n : ℕ) (ns : List ℕ) → is_among (n ∷ ns) n ≡ true
among_first n ns = rw (eqb_self n) refl

pub among_next : (m n : ℕ) (ns : List ℕ) → is_among ns n ≡ true → is_among (m ∷ ns) n ≡ true
among_next m n ns stands = rw stands (or-true (m == n))

pub among_at : (ns : List ℕ) (i n : ℕ) → slice_get ns i ≡ Some n → is_among ns n ≡ true
among_at [] i n is = absurd cc
among_at (m ∷ ns) zero n is =
    let same : m ≡ n = cc in
    subst (λ k. is_among (m ∷ ns) k ≡ true) same (among_first m ns)
among_at (m ∷ ns) (suc i) n is = among_next m n ns (among_at ns i n is)

pub among_place : (ns : List ℕ) (n : ℕ) → is_among ns n ≡ true → (i : ℕ) × (slice_get ns i ≡ Some n)
among_place [] n stands = absurd (false≢true stands)
among_place (m ∷ ns) n stands = elim (eqb_tells m n) [
  | inl same ↦ (0, ap Some same.1)
  | inr other ↦ (let r = among_place ns n (rw other.0 at stands) in (suc r.0, r.1))
]

-- among those that pass a test are those that pass it
pub among_filter : (p : ℕ → Bool) (n : ℕ) (ns : List ℕ) → is_among (filter p ns) n ≡ (is_among ns n && p n)
among_filter p n [] = refl
among_filter p n (m ∷ ns) = by (p m) refl (among_filter p n ns)
  where
    by : (b : Bool) → p m ≡ b → is_among (filter p ns) n ≡ (is_among ns n && p n) →
        is_among (cond b (m ∷ filter p ns) (filter p ns)) n ≡ (is_among (m ∷ ns) n && p n)
    by true passes rest = elim (eqb_tells m n) [
      | inl same ↦ rw (same.0, sym (ap p same.1) ∙ passes) refl
      | inr other ↦ rw other.0 rest
    ]
    by false fails rest = elim (eqb_tells m n) [
      | inl same ↦ rw (same.0, rest, sym (ap p same.1) ∙ fails) (and-false (is_among ns n))
      | inr other ↦ rw other.0 rest
    ]

-- the numbers from a first one on
pub numbers_more : (first count last : ℕ) → first + count ≡ last → numbers_from first (suc count) ≡ numbers_from first count ++ last ∷ []
numbers_more first zero last e = let same : first ≡ last = omega arith in ap (λ m. m ∷ []) same
numbers_more first (suc count) last e = ap (λ rest. first ∷ rest) (numbers_more (suc first) count last (omega arith))

pub numbers_passed_more : (p : ℕ → Bool) (n : ℕ) (old new : List ℕ) (here : Bool) → old ≡ filter p (numbers_from 0 n) →
    new ≡ old ++ cond here (n ∷ []) [] → here ≡ p n → new ≡ filter p (numbers_from 0 (n + 1))
numbers_passed_more p n old new here so_far step is =
    step ∙ (λ i. so_far i ++ cond (is i) (n ∷ []) [])
    ∙ sym (filter_push p (numbers_from 0 n) n)
    ∙ ap (filter p) (sym (numbers_more 0 n n (omega arith)))
    ∙ ap (λ m. filter p (numbers_from 0 m)) (sym (add-one n))

pub length-numbers : (first count : ℕ) → length (numbers_from first count) ≡ count
length-numbers first zero = refl
length-numbers first (suc count) = ap suc (length-numbers (suc first) count)

pub numbers_at : (first count i : ℕ) → i < count → slice_get (numbers_from first count) i ≡ Some (first + i)
numbers_at first zero i below = absurd (omega arith)
numbers_at first (suc count) zero below = let e : first ≡ first + 0 = omega arith in ap Some e
numbers_at first (suc count) (suc i) below = numbers_at (suc first) count i (omega arith)
    ∙ ap Some (let e : suc first + i ≡ first + suc i = omega arith in e)

pub among_numbers : (first count n : ℕ) → first ≤ n → n < first + count → is_among (numbers_from first count) n ≡ true
among_numbers first zero n from below = absurd (omega arith)
among_numbers first (suc count) n from below = elim (eqb_tells first n) [
  | inl same ↦ rw same.0 refl
  | inr other ↦ among_next first n _ (among_numbers (suc first) count n (omega (arith, other.1)) (omega arith))
]

pub not_among_numbers : (first count n : ℕ) → n < first → is_among (numbers_from first count) n ≡ false
not_among_numbers first zero n below = refl
not_among_numbers first (suc count) n below = elim (eqb_tells first n) [
  | inl same ↦ absurd (omega (arith, same.1))
  | inr other ↦ rw other.0 (not_among_numbers (suc first) count n (omega arith))
]

-- no number stands among those after it, which says by recursion that no number stands twice
abbrev pub AreApart : List ℕ → Type 0
AreApart [] = Unit {0}
AreApart (n ∷ ns) = (is_among ns n ≡ false) × AreApart ns

pub apart_numbers : (first count : ℕ) → AreApart (numbers_from first count)
apart_numbers first zero = tt
apart_numbers first (suc count) = (not_among_numbers (suc first) count first (omega arith), apart_numbers (suc first) count)

pub apart_filter : (p : ℕ → Bool) (ns : List ℕ) → AreApart ns → AreApart (filter p ns)
apart_filter p [] apart = tt
apart_filter p (n ∷ ns) apart = by (p n) (apart_filter p ns apart.1)
  where
    by : (b : Bool) → AreApart (filter p ns) → AreApart (cond b (n ∷ filter p ns) (filter p ns))
    by true rest = (among_filter p n ns ∙ ap (λ b. b && p n) apart.0, rest)
    by false rest = rest

pub apart_append : (ns ms : List ℕ) → AreApart ns → AreApart ms → ((n : ℕ) → is_among ns n ≡ true → is_among ms n ≡ false) →
    AreApart (ns ++ ms)
apart_append [] ms apart others disjoint = others
apart_append (n ∷ ns) ms apart others disjoint = (
  list_any-append (λ m. m == n) ns ms ∙ (λ i. apart.0 i || disjoint n (among_first n ns) i),
  apart_append ns ms apart.1 others (λ m stands. disjoint m (among_next n m ns stands)),
)

pub distinct_from_apart : (ns : List ℕ) → AreApart ns → IsDistinct ns
distinct_from_apart [] apart i j n at_i at_j = absurd cc
distinct_from_apart (m ∷ ns) apart zero zero n at_i at_j = refl
distinct_from_apart (m ∷ ns) apart zero (suc j) n at_i at_j =
    let same : n ≡ m = cc in
    absurd (false≢true (sym apart.0 ∙ ap (is_among ns) (sym same) ∙ among_at ns j n at_j))
distinct_from_apart (m ∷ ns) apart (suc i) zero n at_i at_j =
    let same : n ≡ m = cc in
    absurd (false≢true (sym apart.0 ∙ ap (is_among ns) (sym same) ∙ among_at ns i n at_i))
distinct_from_apart (m ∷ ns) apart (suc i) (suc j) n at_i at_j = ap suc (distinct_from_apart ns apart.1 i j n at_i at_j)

-- one thing for each number makes a list of the same length
pub length_one_each : {V : Type 0} (f : ℕ → List V) (ns : List ℕ) → ((n : ℕ) → is_among ns n ≡ true → length (f n) ≡ 1) →
    length (flat_map f ns) ≡ length ns
length_one_each f [] one = refl
length_one_each f (n ∷ ns) one =
    let first = one n (among_first n ns) in
    let rest = length_one_each f ns (λ m stands. one m (among_next n m ns stands)) in
    length-append (f n) (flat_map f ns) ∙ (λ i. first i + rest i) ∙ omega arith

pub numbers_below : (first count limit : ℕ) → first + count ≤ limit → AllByRecursion (λ n. n < limit) (numbers_from first count)
numbers_below first zero limit within = tt
numbers_below first (suc count) limit within = (omega arith, numbers_below (suc first) count limit (omega arith))

-- whether a number is the last one, or among those before it
pub among_push : (ns : List ℕ) (m n : ℕ) → is_among (ns ++ m ∷ []) n ≡ (is_among ns n || (m == n))
among_push ns m n = list_any-append (λ k. k == n) ns (m ∷ []) ∙ ap (λ b. is_among ns n || b) (or-false (m == n))

-- a key that is not among those of a list is not found there
pub lookup_not_among : {X : Type 0} (s : ℕ) (es : List (ℕ × X)) → is_among (map (λ e. e.0) es) s ≡ false → lookup (nat_eq s) es ≡ None
lookup_not_among s [] absent = refl
lookup_not_among {X = X} s (e ∷ es) absent = by (e.0 == s) refl (lookup_not_among s es) absent
  where
    turned : (c : Bool) → (e.0 == s) ≡ false → nat_eq s e.0 ≡ c → lookup (nat_eq s) es ≡ None → lookup (nat_eq s) (e ∷ es) ≡ None
    turned true h k rest = let yes : (e.0 == s) ≡ true = eq-eqb e.0 s (sym (eqb-true s e.0 k)) in cc
    turned false h k rest = rw k rest

    by : (b : Bool) → (e.0 == s) ≡ b → (is_among (map (λ f. f.0) es) s ≡ false → lookup (nat_eq s) es ≡ None) →
        is_among (map (λ f. f.0) (e ∷ es)) s ≡ false → lookup (nat_eq s) (e ∷ es) ≡ None
    by true h rest gone = let yes : is_among (map (λ f. f.0) (e ∷ es)) s ≡ true = rw h refl in cc
    by false h rest gone = turned (nat_eq s e.0) h refl (rest (rw h at gone))

-- ---- lists in which no number stands twice

-- a front of such a list is one, and so is what is behind it
pub distinct_front : (ns ms : List ℕ) → IsDistinct (ns ++ ms) → IsDistinct ns
distinct_front ns ms distinct i j n at too = distinct i j n (slice_get_grown ns ms i n at) (slice_get_grown ns ms j n too)

pub distinct_behind : (ns ms : List ℕ) → IsDistinct (ns ++ ms) → IsDistinct ms
distinct_behind ns ms distinct i j n at too =
    let same : length ns + i ≡ length ns + j = distinct (length ns + i) (length ns + j) n
    (slice_get-append ns ms i (length ns + i) refl ∙ at) (slice_get-append ns ms j (length ns + j) refl ∙ too) in
    omega (arith, same)

-- the number at a place stands at no earlier place
pub distinct_new : (ns : List ℕ) (i d : ℕ) → i < length ns → IsDistinct ns → is_among (take i ns) (get_or ns i d) ≡ false
distinct_new ns i d within distinct = by (is_among (take i ns) (get_or ns i d)) refl
  where
    by : (b : Bool) → is_among (take i ns) (get_or ns i d) ≡ b → b ≡ false
    by false h = refl
    by true h =
        let place = among_place (take i ns) (get_or ns i d) h in
        let before = slice_get-take i ns place.0 (get_or ns i d) place.1 in
        let same : place.0 ≡ i = distinct place.0 i (get_or ns i d) before.1 (slice_get-get_or ns i d within) in
        absurd (omega (arith, same, before.0))
