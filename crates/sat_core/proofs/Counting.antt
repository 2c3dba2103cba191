-- A trace has fewer clauses than there are words of signs.
use Rattle.std.proofs.Common.{◌≡◌, ℕ, zero, suc, ◌+◌, ◌*◌, ◌<◌, ◌^◌, Bool, true, false, not, cond, List, [], ◌∷◌, ◌++◌, length, map, filter}
use Rattle.std.proofs.Common.{sym, ap, ◌∙◌, refl, arith, eqb, inl, inr, Contains}
use Rattle.std.specs.List.{IsDistinct, AllByRecursion, list_any}
use Rattle.std.proofs.Math.Nat.{pow-succ'}
use Rattle.std.proofs.lemmas.Bool.{true≢false, false≢true, or_cases, or_left, or_right, cases_Bool, cases_eq, eqb-true, ne_eqb, cond-true}
use Rattle.std.proofs.lemmas.Bool.{cond-false, false_from_ne_true}
use Rattle.std.proofs.lemmas.List.{length-map}
use Rattle.std.proofs.lemmas.List.Elements.{Contains-append_left, Contains-append_right, All-contains}
use Rattle.std.proofs.lemmas.Map.Steps.{length-le_from_distinct_below}
use Rattle.sat_trail.proofs.TrailSteps.{one_not_false, none_not_false}
use Rattle.clause_core.specs.Literals.{Lit, negation, same, has}
use Rattle.clause_core.specs.Clauses.{IsIncreasing, IsOver, has_pair}
use Rattle.clause_core.specs.Propagation.{not_false, IsLearnt, IsTrace}
use Rattle.clause_core.specs.Propagation.Reaches.{done, turn}
use Rattle.clause_core.proofs.Sets.{same_is, same_from, negation-negation, Contains_from_has, has_from_Contains, has_pair_from}
use Rattle.clause_learning.proofs.Hints.{has-map-negation}

abbrev lit : ℕ → Bool → Lit
lit i p = record { index = i; positive = p }

-- the sign with which a variable stands in a clause, if it does
abbrev pub sign : List Lit → ℕ → ℕ
sign clause i = cond (has clause (lit i true)) 1 (cond (has clause (lit i false)) 2 0)

-- the word of the signs of the first variables, as a number
abbrev pub word : ℕ → List Lit → ℕ
word zero clause = 0
word (suc i) clause = 3 * word i clause + sign clause i

sign_below : (clause : List Lit) (i : ℕ) → sign clause i < 3
sign_below clause i = by_tests (has clause (lit i true)) (has clause (lit i false))
  where
    by_tests : (a b : Bool) → cond a 1 (cond b 2 0) < 3
    by_tests true b = omega arith
    by_tests false true = omega arith
    by_tests false false = omega arith

pub word_below : (v : ℕ) (clause : List Lit) → word v clause < 3 ^ v
word_below zero clause = omega arith
word_below (suc i) clause = scaled (word i clause) (sign clause i) (3 ^ i) (3 ^ suc i) (pow-succ' 3 i) (word_below i clause)
    (sign_below clause i)
  where
    scaled : (w s p q : ℕ) → q ≡ 3 * p → w < p → s < 3 → 3 * w + s < q
    scaled w s p q e h k = omega arith

-- equal words have equal signs
signs_same : (v : ℕ) (c d : List Lit) → word v c ≡ word v d → (i : ℕ) → i < v → sign c i ≡ sign d i
signs_same zero c d h i below = absurd (omega arith)
signs_same (suc v) c d h i below =
    elim (cases_eq i v) [
      | inl is ↦ ap (sign c) is ∙ (last (word v c) (word v d) (sign c v) (sign d v) h (sign_below c v) (sign_below d v)
          ∙ ap (sign d) (sym is))
      | inr n ↦ signs_same v c d (first (word v c) (word v d) (sign c v) (sign d v) h (sign_below c v) (sign_below d v)) i (omega arith)
    ]
  where
    first : (a b x y : ℕ) → 3 * a + x ≡ 3 * b + y → x < 3 → y < 3 → a ≡ b
    first a b x y h p q = omega arith

    last : (a b x y : ℕ) → 3 * a + x ≡ 3 * b + y → x < 3 → y < 3 → x ≡ y
    last a b x y h p q = let e = first a b x y h p q in omega arith

no_other : (c : List Lit) (l : Lit) → has_pair c ≡ false → has c l ≡ true → has c (negation l) ≡ false
no_other c l none h = false_from_ne_true (has c (negation l)) (λ k. true≢false (sym (has_pair_from c l h k) ∙ none))

-- clauses with equal words have the same literals
has_same : (v : ℕ) (c d : List Lit) → has_pair c ≡ false → word v c ≡ word v d → (l : Lit) → l.index < v → has c l ≡ true → has d l ≡ true
has_same v c d none h l below there = by_sign l.positive l.index refl below there (signs_same v c d h l.index below)
  where
    by_tests : (a b : Bool) → ◌≡◌ {A = ℕ} 1 (cond a 1 (cond b 2 0)) → a ≡ true
    by_tests true b e = refl
    by_tests false true e = absurd (omega arith)
    by_tests false false e = absurd (omega arith)

    by_tests_2 : (a b : Bool) → ◌≡◌ {A = ℕ} 2 (cond a 1 (cond b 2 0)) → b ≡ true
    by_tests_2 true b e = absurd (omega arith)
    by_tests_2 false true e = refl
    by_tests_2 false false e = absurd (omega arith)

    by_sign : (p : Bool) (i : ℕ) → l ≡ lit i p → i < v → has c (lit i p) ≡ true → sign c i ≡ sign d i → has d (lit i p) ≡ true
    by_sign true i is below there e = by_tests (has d (lit i true)) (has d (lit i false))
        (sym (cond-true (has c (lit i true)) 1 (cond (has c (lit i false)) 2 0) there) ∙ e)
    by_sign false i is below there e = by_tests_2 (has d (lit i true)) (has d (lit i false))
        (sym (cond-false (has c (lit i true)) 1 (cond (has c (lit i false)) 2 0) (no_other c (lit i false) none there)
        ∙ cond-true (has c (lit i false)) 2 0 there) ∙ e)

-- ---- no clause is learnt that has a known one in it

has-filter : (p : Lit → Bool) (xs : List Lit) (l : Lit) → has xs l ≡ true → p l ≡ true → has (filter p xs) l ≡ true
has-filter p [] l h t = absurd (false≢true h)
has-filter p (x ∷ xs) l h t =
    elim (or_cases (same x l) (has xs l) h) [
      | inl s ↦ ap (λ (ls : List Lit). has ls l) (cond-true (p x) (x ∷ filter p xs) (filter p xs) (ap p (same_is x l s) ∙ t))
          ∙ or_left (same x l) (has (filter p xs) l) s
      | inr s ↦ by_test (p x) (has-filter p xs l s t)
    ]
  where
    by_test : (b : Bool) → has (filter p xs) l ≡ true → has (cond b (x ∷ filter p xs) (filter p xs)) l ≡ true
    by_test true h = or_right (same x l) (has (filter p xs) l) h
    by_test false h = h

pub filter-has : (p : Lit → Bool) (xs : List Lit) (l : Lit) → has (filter p xs) l ≡ true → (has xs l ≡ true) × (p l ≡ true)
filter-has p [] l h = absurd (false≢true h)
filter-has p (x ∷ xs) l h = by_test (p x) refl (filter-has p xs l) h
  where
    by_test : (b : Bool) → p x ≡ b → (has (filter p xs) l ≡ true → (has xs l ≡ true) × (p l ≡ true)) →
        has (cond b (x ∷ filter p xs) (filter p xs)) l ≡ true → (has (x ∷ xs) l ≡ true) × (p l ≡ true)
    by_test true t later h = elim (or_cases (same x l) (has (filter p xs) l) h) [
      | inl s ↦ (or_left (same x l) (has xs l) s, ap p (sym (same_is x l s)) ∙ t)
      | inr s ↦ (let r = later s in (or_right (same x l) (has xs l) r.0, r.1))
    ]
    by_test false t later h = let r = later h in (or_right (same x l) (has xs l) r.0, r.1)

pub not_within : (v : ℕ) (known : List (List Lit)) (c d : List Lit) → Contains known c → IsIncreasing c →
    ((m : Lit) → has c m ≡ true → has d m ≡ true) → IsLearnt v known d → ⊥
not_within v known c d there up within learnt = elim (cases_Bool (has c l)) [
  | inl y ↦ (let unit : not_false start c ≡ l ∷ [] = one_not_false start c l up y open' (λ m h n. negated m (within m h) n) in
      let unassigned : has start l ≡ false = false_from_ne_true (has start l)
      (λ h. true≢false (sym (has_pair_from d l (has_from_Contains d l learnt.adds.1)
      (filter-has (λ m. not (same m l)) d (negation l) (sym (has-map-negation rest l) ∙ h)).0) ∙ learnt.no_pair)) in
      true≢false (sym (or_left (same l l) (has start l) (same_from l l refl))
      ∙ (learnt.adds.2 (l ∷ start) (turn {clause = c} {l = l} there (record { others_false = unit; unassigned = unassigned }) done)).1))
  | inr n ↦ (learnt.adds.2 start done).0 (
    c,
    there,
    none_not_false start c
        (λ m h. negated m (within m h) (λ e. true≢false (sym h ∙ (ap (has c) e ∙ n)))),
  )
]
  where
    l : Lit
    l = learnt.adds.0

    rest : List Lit
    rest = filter (λ m. not (same m l)) d

    start : List Lit
    start = map negation rest

    negated : (m : Lit) → has d m ≡ true → (m ≡ l → ⊥) → has start (negation m) ≡ true
    negated m h n = has-map-negation rest (negation m) ∙ (ap (has rest) (negation-negation m)
        ∙ has-filter (λ z. not (same z l)) d m h (ap not (false_from_ne_true (same m l) (λ s. n (same_is m l s)))))

    open' : has start (negation l) ≡ false
    open' = false_from_ne_true (has start (negation l)) (λ h. (let r = filter-has (λ m. not (same m l)) d l
        (ap (has rest) (sym (negation-negation l)) ∙ (sym (has-map-negation rest (negation l)) ∙ h)) in
        true≢false (sym r.1 ∙ ap not (same_from l l refl))))

-- ---- different words

words_differ : (v : ℕ) (known : List (List Lit)) (c : List Lit) → Contains known c → IsIncreasing c → IsOver v c → has_pair c ≡ false →
    (ds : List (List Lit)) → IsTrace v known ds → AllByRecursion (λ w. eqb (word v c) w ≡ false) (map (word v) ds)
words_differ v known c there up over none [] trace = tt
words_differ v known c there up over none (d ∷ ds) trace = (
  ne_eqb (word v c) (word v d) (λ e. not_within v known c d there up
      (λ m h. has_same v c d none e m (All-contains (λ l. l.index < v) c m over (Contains_from_has c m h)) h) trace.0),
  words_differ v (known ++ d ∷ []) c (Contains-append_left known (d ∷ []) c there) up over none ds trace.1,
)

not_zero : (v : ℕ) (known ds : List (List Lit)) → IsTrace v known ds → AllByRecursion (λ w. eqb 0 w ≡ false) (map (word v) ds)
not_zero v known [] trace = tt
not_zero v known (d ∷ ds) trace = (
  ne_eqb 0 (word v d) (λ e. (let l = trace.0.adds.0 in
      let member = has_from_Contains d l trace.0.adds.1 in
      false≢true (has_same v d [] trace.0.no_pair (sym e ∙ sym (word_empty v)) l
      (All-contains (λ m. m.index < v) d l trace.0.over trace.0.adds.1) member))),
  not_zero v (known ++ d ∷ []) ds trace.1,
)
  where
    word_empty : (n : ℕ) → word n [] ≡ 0
    word_empty zero = refl
    word_empty (suc n) = let e = word_empty n in omega arith

words_distinct : (v : ℕ) (known ds : List (List Lit)) → IsTrace v known ds → AllByRecursion IsIncreasing ds →
    IsDistinct eqb (map (word v) ds)
unfolding IsDistinct
words_distinct v known [] trace up = tt
words_distinct v known (d ∷ ds) trace up = (
  words_differ v (known ++ d ∷ []) d (Contains-append_right known (d ∷ []) d
      (0, omega arith, refl)) up.0 trace.0.over trace.0.no_pair ds trace.1,
  words_distinct v (known ++ d ∷ []) ds trace.1 up.1,
)

all_below : (v : ℕ) (ds : List (List Lit)) (q : ℕ) → list_any (eqb q) (map (word v) ds) ≡ true → q < 3 ^ v
all_below v [] q h = absurd (false≢true h)
all_below v (d ∷ ds) q h = elim (or_cases (eqb q (word v d)) (list_any (eqb q) (map (word v) ds)) h) [
  | inl s ↦ (let e = eqb-true q (word v d) s in let b = word_below v d in omega arith)
  | inr s ↦ all_below v ds q s
]

with_zero : (v : ℕ) (known ds : List (List Lit)) → IsTrace v known ds → AllByRecursion IsIncreasing ds →
    IsDistinct eqb (0 ∷ map (word v) ds)
unfolding IsDistinct
with_zero v known ds trace up = (not_zero v known ds trace, words_distinct v known ds trace up)

pub trace_is_short : (v : ℕ) (known ds : List (List Lit)) → IsTrace v known ds → AllByRecursion IsIncreasing ds → length ds < 3 ^ v
trace_is_short v known ds trace up =
    let h = length-le_from_distinct_below (0 ∷ map (word v) ds) (3 ^ v) (with_zero v known ds trace up) below in
    omega (arith, length-map ds (word v))
  where
    below : (q : ℕ) → list_any (eqb q) (0 ∷ map (word v) ds) ≡ true → q < 3 ^ v
    below q h = elim (or_cases (eqb q 0) (list_any (eqb q) (map (word v) ds)) h) [
      | inl s ↦ (let e = eqb-true q 0 s in let b = word_below v [] in omega arith)
      | inr s ↦ all_below v ds q s
    ]
