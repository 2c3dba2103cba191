-- Lists of literals by what is in them.
use Rattle.std.proofs.Common.{◌≡◌, ℕ, zero, suc, ◌+◌, ◌*◌, ◌<◌, ◌≤◌, Bool, true, false, not, cond, ◌&&◌, ◌||◌, length, ℤ, pos, negsuc, neg_ℤ}
use Rattle.std.proofs.Common.{◌<ℤ◌, List, [], ◌∷◌, ◌++◌, sym, ap, ◌∙◌, subst, refl, arith, inl, inr, ◌⊎◌, Contains, IsPermutation}
use Rattle.std.specs.Ordering.{int_cmp, is_lt, MatchOrdering}
use Rattle.std.specs.List.{list_any, AllByRecursion}
use Rattle.std.specs.declared.cmp.Ordering.{Ordering}
use Rattle.std.specs.declared.cmp.Ordering.TheVariants.{Less, Equal, Greater}
use Rattle.std.specs.Prelude.{int_lt, IsSorted}
use Rattle.std.specs.List.{dedup}
use Rattle.std.specs.List.Sorted.{IsStrictlySortedBy}
use Rattle.std.specs.Cmp.{IsTotalOrder, IsEquivalence, on_total, on_equiv, int_cmp_total, int_eq_equiv, int_ranked, int_ranks}
use Rattle.std.proofs.lemmas.List.Sorted.{Contains-permutation, IsPermutation-sym}
use Rattle.std.proofs.lemmas.List.Folds.{list_any-append}
use Rattle.std.proofs.lemmas.List.Kept.{Contains-dedup, Contains-from_dedup, IsStrictlySortedBy-dedup}
use Rattle.std.proofs.lemmas.Bool.{true≢false, false≢true, or_cases, or_left, or_right, cases_Bool, false_from_ne_true}
use Rattle.std.proofs.lemmas.Bool.Decides.{Decides-int_eq}
use Rattle.std.proofs.lemmas.Int.{ints}
use Rattle.base_library.proofs.Booleans.{same_tests, not_not}
use Rattle.base_library.proofs.Each.{each_weaker, each_left, each_between}
use Rattle.std.proofs.Math.Bool.{or_assoc, or_comm, or_self_left}
use Rattle.clause_core.specs.Literals.{Lit, signed_number_of, literal_of, negation, same, has, code_of}
use Rattle.clause_core.specs.Clauses.{IsIncreasing, with_literal, in_order, is_contained, has_pair}

literal_of-signed_number_of : (i : ℕ) (p : Bool) → literal_of (cond p (pos (suc i)) (negsuc i)) ≡ (record { index = i; positive = p })
literal_of-signed_number_of i true = refl
literal_of-signed_number_of i false = refl

-- equal literals by their numbers
pub signed_number_of-injective : (a b : Lit) → signed_number_of a ≡ signed_number_of b → a ≡ b
signed_number_of-injective a b e =
    sym (literal_of-signed_number_of a.index a.positive) ∙ (ap literal_of e ∙ literal_of-signed_number_of b.index b.positive)

pub same_is : (a b : Lit) → same a b ≡ true → a ≡ b
same_is a b h = signed_number_of-injective a b ((Decides-int_eq (signed_number_of a) (signed_number_of b)).0 h)

pub same_from : (a b : Lit) → a ≡ b → same a b ≡ true
same_from a b e = (Decides-int_eq (signed_number_of a) (signed_number_of b)).1 (ap signed_number_of e)

pub negation-negation : (l : Lit) → negation (negation l) ≡ l
negation-negation l = ap (λ (p : Bool). record { index = l.index; positive = p }) (not_not l.positive)

pub negation_differs : (l : Lit) → negation l ≡ l → ⊥
negation_differs l e =
    let other : (p : Bool) → not p ≡ p → ⊥ = λ p. elim p as (λ b. not b ≡ b → ⊥)
    [ true ↦ (λ h. false≢true h) | false ↦ (λ h. true≢false h) ] in
    other l.positive (ap (λ (m : Lit). m.positive) e)

-- ---- what a list has

pub has-append : (xs ys : List Lit) (l : Lit) → has (xs ++ ys) l ≡ (has xs l || has ys l)
has-append xs ys l = list_any-append (λ m. same m l) xs ys

pub Contains_from_has : (xs : List Lit) (l : Lit) → has xs l ≡ true → Contains xs l
Contains_from_has [] l h = absurd (false≢true h)
Contains_from_has (x ∷ xs) l h =
    elim (or_cases (same x l) (has xs l) h) [
      | inl e ↦ (0, omega arith, same_is x l e)
      | inr t ↦ (let r = Contains_from_has xs l t in (suc r.0, omega arith, r.2))
    ]

pub has_from_Contains : (xs : List Lit) (l : Lit) → Contains xs l → has xs l ≡ true
has_from_Contains [] l c = absurd (omega (arith, c.1))
has_from_Contains (x ∷ xs) l (zero, below, is) = or_left (same x l) (has xs l) (same_from x l is)
has_from_Contains (x ∷ xs) l (suc k, below, is) = or_right (same x l) (has xs l) (has_from_Contains xs l (k, omega arith, is))

-- ---- order

below_chain : (a b c : ℤ) → a <ℤ b → b <ℤ c → a <ℤ c
below_chain a b c h k = omega (arith, ints)

not_below : (a b : ℤ) → a <ℤ b → b <ℤ a → ⊥
not_below a b h k = omega (arith, ints)

not_equal : (a b : ℤ) → a <ℤ b → a ≡ b → ⊥
not_equal a b h e = omega (arith, ints)

pub AllByRecursion-has : (P : Lit → Type 0) (xs : List Lit) (l : Lit) → AllByRecursion P xs → has xs l ≡ true → P l
AllByRecursion-has P [] l a h = absurd (false≢true h)
AllByRecursion-has P (x ∷ xs) l a h =
    elim (or_cases (same x l) (has xs l) h) [
      | inl e ↦ subst P (same_is x l e) a.0
      | inr t ↦ AllByRecursion-has P xs l a.1 t
    ]

-- an increasing list has no literal twice
pub IsIncreasing-apart : (l : Lit) (ls : List Lit) → IsIncreasing (l ∷ ls) → has ls l ≡ true → ⊥
IsIncreasing-apart l ls up h = below_itself (signed_number_of l)
    (AllByRecursion-has (λ m. signed_number_of l <ℤ signed_number_of m) ls l up.0 h)
  where
    below_itself : (z : ℤ) → z <ℤ z → ⊥
    below_itself z h = omega (arith, ints)

-- two increasing lists with the same literals are equal
pub one_increasing : (xs ys : List Lit) → IsIncreasing xs → IsIncreasing ys → ((l : Lit) → has xs l ≡ has ys l) → xs ≡ ys
one_increasing [] [] ux uy h = refl
one_increasing [] (y ∷ ys) ux uy h = absurd (false≢true (h y ∙ or_left (same y y) (has ys y) (same_from y y refl)))
one_increasing (x ∷ xs) [] ux uy h = absurd (false≢true (sym (h x) ∙ or_left (same x x) (has xs x) (same_from x x refl)))
one_increasing (x ∷ xs) (y ∷ ys) ux uy h =
    let e : x ≡ y = first_is x y xs ys ux uy (sym (h x) ∙ or_left (same x x) (has xs x) (same_from x x refl))
    (h y ∙ or_left (same y y) (has ys y) (same_from y y refl)) in
    let uy' : IsIncreasing (x ∷ ys) = subst (λ z. IsIncreasing (z ∷ ys)) (sym e) uy in
    let h' : (l : Lit) → (same x l || has xs l) ≡ (same x l || has ys l) = λ l. h l ∙ ap (λ (z : Lit). same z l || has ys l) (sym e) in
    let tails : xs ≡ ys = one_increasing xs ys ux.1 uy.1 (λ l. rest_is x l xs ys ux uy' (h' l)) in
    cc
  where
    first_is : (x y : Lit) (xs ys : List Lit) → IsIncreasing (x ∷ xs) → IsIncreasing (y ∷ ys) → (same y x || has ys x) ≡ true →
        (same x y || has xs y) ≡ true → x ≡ y
    first_is x y xs ys ux uy p q =
        elim (or_cases (same y x) (has ys x) p) [
          | inl e ↦ sym (same_is y x e)
          | inr t ↦ elim (or_cases (same x y) (has xs y) q) [
            | inl e ↦ same_is x y e
            | inr u ↦ absurd (not_below (signed_number_of x) (signed_number_of y)
                (AllByRecursion-has (λ m. signed_number_of x <ℤ signed_number_of m) xs y ux.0 u)
                (AllByRecursion-has (λ m. signed_number_of y <ℤ signed_number_of m) ys x uy.0 t))
          ]
        ]

    rest_is : (x l : Lit) (xs ys : List Lit) → IsIncreasing (x ∷ xs) → IsIncreasing (x ∷ ys) →
        (same x l || has xs l) ≡ (same x l || has ys l) → has xs l ≡ has ys l
    rest_is x l xs ys ux uy e =
        elim (cases_Bool (same x l)) [
          | inl t ↦ (let is : x ≡ l = same_is x l t in
              same_tests (has xs l) (has ys l) (λ k. absurd (IsIncreasing-apart x xs ux (subst (λ (z : Lit). has xs z ≡ true) (sym is) k)))
              (λ k. absurd (IsIncreasing-apart x ys uy (subst (λ (z : Lit). has ys z ≡ true) (sym is) k))))
          | inr f ↦ (let a : has xs l ≡ (same x l || has xs l) = ap (λ (b : Bool). b || has xs l) (sym f) in
              let b : (same x l || has ys l) ≡ has ys l = ap (λ (b : Bool). b || has ys l) f in
              a ∙ (e ∙ b))
        ]

-- ---- the list in order

has-with_literal : (l m : Lit) (ms : List Lit) → has (with_literal l ms) m ≡ (same l m || has ms m)
has-with_literal l m [] = refl
has-with_literal l m (x ∷ xs) = at_same (has-with_literal l m xs) (same l x) refl
  where
    turned : (a b c : Bool) → (b || (a || c)) ≡ (a || (b || c))
    turned a b c = sym (or_assoc b a c) ∙ (ap (λ d. d || c) (or_comm b a) ∙ or_assoc a b c)

    at_less : has (with_literal l xs) m ≡ (same l m || has xs m) → (t : Bool) →
        has (cond t (l ∷ x ∷ xs) (x ∷ with_literal l xs)) m ≡ (same l m || (same x m || has xs m))
    at_less ih true = refl
    at_less ih false = ap (λ (b : Bool). same x m || b) ih ∙ turned (same l m) (same x m) (has xs m)

    at_same : has (with_literal l xs) m ≡ (same l m || has xs m) → (t : Bool) → same l x ≡ t →
        has (cond t (x ∷ xs) (cond (int_lt (signed_number_of l) (signed_number_of x)) (l ∷ x ∷ xs) (x ∷ with_literal l xs))) m
        ≡ (same l m || (same x m || has xs m))
    at_same ih true e = sym (or_self_left (same x m) (has xs m))
        ∙ ap (λ (z : Lit). same z m || (same x m || has xs m)) (sym (same_is l x e))
    at_same ih false e = at_less ih (int_lt (signed_number_of l) (signed_number_of x))

pub has-in_order : (ls : List Lit) (m : Lit) → has (in_order ls) m ≡ has ls m
has-in_order [] m = refl
has-in_order (l ∷ ls) m = has-with_literal l m (in_order ls) ∙ ap (λ (b : Bool). same l m || b) (has-in_order ls m)

All-with_literal : (P : Lit → Type 0) (l : Lit) (ms : List Lit) → P l → AllByRecursion P ms → AllByRecursion P (with_literal l ms)
All-with_literal P l [] h a = (h, tt)
All-with_literal P l (x ∷ xs) h a = at_same (All-with_literal P l xs h a.1) (same l x)
  where
    at_less : AllByRecursion P (with_literal l xs) → (t : Bool) → AllByRecursion P (cond t (l ∷ x ∷ xs) (x ∷ with_literal l xs))
    at_less ih true = (h, (a.0, a.1))
    at_less ih false = (a.0, ih)

    at_same : AllByRecursion P (with_literal l xs) → (t : Bool) → AllByRecursion P
        (cond t (x ∷ xs) (cond (int_lt (signed_number_of l) (signed_number_of x)) (l ∷ x ∷ xs) (x ∷ with_literal l xs)))
    at_same ih true = a
    at_same ih false = at_less ih (int_lt (signed_number_of l) (signed_number_of x))

IsIncreasing-with_literal : (l : Lit) (ms : List Lit) → IsIncreasing ms → IsIncreasing (with_literal l ms)
IsIncreasing-with_literal l [] up = (tt, tt)
IsIncreasing-with_literal l (x ∷ xs) up = at_same (IsIncreasing-with_literal l xs up.1) (same l x) refl
  where
    apart : (a b : ℤ) → (a ≡ b → ⊥) → int_lt a b ≡ false → b <ℤ a
    apart a b n f = grind (arith, ints)

    tested : (a b : ℤ) → int_lt a b ≡ true → a <ℤ b
    tested a b t = grind (arith, ints)

    at_less : IsIncreasing (with_literal l xs) → (t : Bool) → int_lt (signed_number_of l) (signed_number_of x) ≡ t → same l x ≡ false →
        IsIncreasing (cond t (l ∷ x ∷ xs) (x ∷ with_literal l xs))
    at_less ih true e n =
        let below : signed_number_of l <ℤ signed_number_of x = tested (signed_number_of l) (signed_number_of x) e in (
          (
            below,
            each_weaker (λ m. signed_number_of x <ℤ signed_number_of m) (λ m. signed_number_of l <ℤ signed_number_of m)
                (λ m h. below_chain (signed_number_of l) (signed_number_of x) (signed_number_of m) below h) xs up.0,
          ),
          up,
        )
    at_less ih false e n =
        let above : signed_number_of x <ℤ signed_number_of l = apart (signed_number_of l) (signed_number_of x)
        (λ k. false≢true (sym n ∙ same_from l x (signed_number_of-injective l x k))) e in
        (All-with_literal (λ m. signed_number_of x <ℤ signed_number_of m) l xs above up.0, ih)

    at_same : IsIncreasing (with_literal l xs) → (t : Bool) → same l x ≡ t →
        IsIncreasing (cond t (x ∷ xs) (cond (int_lt (signed_number_of l) (signed_number_of x)) (l ∷ x ∷ xs) (x ∷ with_literal l xs)))
    at_same ih true e = up
    at_same ih false e = at_less ih (int_lt (signed_number_of l) (signed_number_of x)) refl e

-- what holds of each literal of a list holds of each of the list in order
pub All-in_order : (P : Lit → Type 0) (ls : List Lit) → AllByRecursion P ls → AllByRecursion P (in_order ls)
All-in_order P [] a = tt
All-in_order P (l ∷ ls) a = All-with_literal P l (in_order ls) a.0 (All-in_order P ls a.1)

pub IsIncreasing-in_order : (ls : List Lit) → IsIncreasing (in_order ls)
IsIncreasing-in_order [] = tt
IsIncreasing-in_order (l ∷ ls) = IsIncreasing-with_literal l (in_order ls) (IsIncreasing-in_order ls)

-- ---- sorted, and without repeats

abbrev pub by_number : Lit → Lit → Ordering
by_number a b = int_cmp (signed_number_of a) (signed_number_of b)

pub by_number_total : IsTotalOrder by_number
by_number_total = on_total signed_number_of int_cmp_total

rises : (ls : List Lit) → IsStrictlySortedBy by_number ls → IsIncreasing ls
unfolding IsStrictlySortedBy
rises [] s = tt
rises (l ∷ ls) s = (
  each_weaker (λ m. by_number l m ≡ Less) (λ m. signed_number_of l <ℤ signed_number_of m)
      (λ m h. less (signed_number_of l) (signed_number_of m) h) ls s.0,
  rises ls s.1,
)
  where
    less : (a b : ℤ) → int_cmp a b ≡ Less → a <ℤ b
    less a b h = int_ranked a b Less (sym h)

pub sorted_once : (ls sorted kept : List Lit) → IsPermutation ls sorted → IsSorted by_number sorted → kept ≡ dedup same sorted →
    kept ≡ in_order ls
sorted_once ls sorted kept moved up is =
    let e : IsEquivalence same = equivalence in
    let there : (l : Lit) → has kept l ≡ true → has (in_order ls) l ≡ true =
    λ l h. has-in_order ls l ∙ has_from_Contains ls l (Contains-permutation sorted ls l (IsPermutation-sym ls sorted moved)
    (Contains-from_dedup same sorted l (Contains_from_has (dedup same sorted) l (subst (λ (xs : List Lit). has xs l ≡ true) is h)))) in
    let back : (l : Lit) → has (in_order ls) l ≡ true → has kept l ≡ true =
    λ l h. subst (λ (xs : List Lit). has xs l ≡ true) (sym is) (has_from_Contains (dedup same sorted) l
    (Contains-dedup e same_is sorted l (Contains-permutation ls sorted l moved
    (Contains_from_has ls l (sym (has-in_order ls l) ∙ h))))) in
    one_increasing kept (in_order ls) (subst IsIncreasing (sym is)
    (rises (dedup same sorted) (IsStrictlySortedBy-dedup by_number_total (λ x y. refl) sorted up))) (IsIncreasing-in_order ls)
    (λ l. same_tests (has kept l) (has (in_order ls) l) (there l) (back l))
  where
    equivalence : IsEquivalence same
    equivalence = on_equiv signed_number_of int_eq_equiv

-- a literal that is below the first of an increasing list
pub rises_front : (x y : Lit) (ys : List Lit) → signed_number_of x <ℤ signed_number_of y → IsIncreasing (y ∷ ys) → IsIncreasing (x ∷ y ∷ ys)
rises_front x y ys below up = (
  (
    below,
    each_weaker (λ m. signed_number_of y <ℤ signed_number_of m) (λ m. signed_number_of x <ℤ signed_number_of m)
        (λ m h. below_chain (signed_number_of x) (signed_number_of y) (signed_number_of m) below h) ys up.0,
  ),
  up,
)

-- an increasing list is in order
pub in_order_already : (ls : List Lit) → IsIncreasing ls → in_order ls ≡ ls
in_order_already ls up = one_increasing (in_order ls) ls (IsIncreasing-in_order ls) up (has-in_order ls)

-- ---- one clause within another

contained-cons : (x : Lit) (small large : List Lit) → is_contained (x ∷ small) large ≡ (has large x && is_contained small large)
contained-cons x small large = refl

-- what no literal of the small list is may be left out of the large one
contained_without : (y : Lit) (small large : List Lit) → AllByRecursion (λ m. signed_number_of y <ℤ signed_number_of m) small →
    is_contained small (y ∷ large) ≡ is_contained small large
contained_without y [] large a = refl
contained_without y (x ∷ small) large a =
    let other : same y x ≡ false = differs y x a.0 in
    ap (λ (b : Bool). (b || has large x) && is_contained small (y ∷ large)) other
    ∙ ap (λ (b : Bool). has large x && b) (contained_without y small large a.1)
  where
    differs : (a b : Lit) → signed_number_of a <ℤ signed_number_of b → same a b ≡ false
    differs a b h = grind (arith, ints, same_is a b)

-- the larger list's first literal is below the smaller one's
pub contained_later : (x : Lit) (small : List Lit) (y : Lit) (large : List Lit) → IsIncreasing (x ∷ small) →
    signed_number_of y <ℤ signed_number_of x → is_contained (x ∷ small) (y ∷ large) ≡ is_contained (x ∷ small) large
contained_later x small y large up below = contained_without y (x ∷ small) large (
  below,
  each_weaker (λ m. signed_number_of x <ℤ signed_number_of m) (λ m. signed_number_of y <ℤ signed_number_of m)
      (λ m h. below_chain (signed_number_of y) (signed_number_of x) (signed_number_of m) below h) small up.0,
)

-- both lists' first literals are one
pub contained_both : (x : Lit) (small large : List Lit) → IsIncreasing (x ∷ small) →
    is_contained (x ∷ small) (x ∷ large) ≡ is_contained small large
contained_both x small large up =
    ap (λ (b : Bool). (b || has large x) && is_contained small (x ∷ large)) (same_from x x refl) ∙ contained_without x small large up.0

-- the smaller list's first literal is below the larger one's
pub contained_never : (x : Lit) (small : List Lit) (y : Lit) (large : List Lit) → IsIncreasing (y ∷ large) →
    signed_number_of x <ℤ signed_number_of y → is_contained (x ∷ small) (y ∷ large) ≡ false
contained_never x small y large up below = ap (λ (b : Bool). b && is_contained small (y ∷ large)) absent
  where
    absent : has (y ∷ large) x ≡ false
    absent = false_from_ne_true (has (y ∷ large) x) (λ h.
        elim (or_cases (same y x) (has large x) h) [
          | inl e ↦ not_equal (signed_number_of x) (signed_number_of y) below (sym (ap signed_number_of (same_is y x e)))
          | inr t ↦ not_below (signed_number_of x) (signed_number_of y) below
              (AllByRecursion-has (λ m. signed_number_of y <ℤ signed_number_of m) large x up.0 t)
        ])

-- ---- pairs

pub record HasPair (clause : List Lit) : Type 0 where
  pub literal : Lit
  pub one : has clause literal ≡ true
  pub other : has clause (negation literal) ≡ true

pub any_has : (p : Lit → Bool) (xs : List Lit) → list_any p xs ≡ true → (l : Lit) × (has xs l ≡ true) × (p l ≡ true)
any_has p [] h = absurd (false≢true h)
any_has p (x ∷ xs) h =
    elim (or_cases (p x) (list_any p xs) h) [
      | inl e ↦ (x, or_left (same x x) (has xs x) (same_from x x refl), e)
      | inr t ↦ (let r = any_has p xs t in (r.0, or_right (same x r.0) (has xs r.0) r.1, r.2))
    ]

pub any_from_has : (p : Lit → Bool) (xs : List Lit) (l : Lit) → has xs l ≡ true → p l ≡ true → list_any p xs ≡ true
any_from_has p [] l h k = absurd (false≢true h)
any_from_has p (x ∷ xs) l h k =
    elim (or_cases (same x l) (has xs l) h) [
      | inl e ↦ or_left (p x) (list_any p xs) (subst (λ (z : Lit). p z ≡ true) (sym (same_is x l e)) k)
      | inr t ↦ or_right (p x) (list_any p xs) (any_from_has p xs l t k)
    ]

pub pair_from : (clause : List Lit) → has_pair clause ≡ true → HasPair clause
pair_from clause h = let r = any_has (λ l. has clause (negation l)) clause h in record { literal = r.0; one = r.1; other = r.2 }

pub has_pair_from : (clause : List Lit) (l : Lit) → has clause l ≡ true → has clause (negation l) ≡ true → has_pair clause ≡ true
has_pair_from clause l h k = any_from_has (λ m. has clause (negation m)) clause l h k

pub short_has_no_pair : (clause : List Lit) → length clause ≤ 1 → has_pair clause ≡ false
short_has_no_pair [] short = refl
short_has_no_pair (x ∷ []) short =
    ap (λ (b : Bool). (b || false) || false) (false_from_ne_true (same x (negation x)) (λ s. negation_differs x (sym (same_is x (negation x) s))))
short_has_no_pair (x ∷ y ∷ rest) short = absurd (omega (arith, short))

-- a literal whose negation is not in the clause takes no part in a pair
pair_without : (x : Lit) (clause rest : List Lit) → ((l : Lit) → has clause l ≡ (same x l || has rest l)) →
    has clause (negation x) ≡ false → has_pair clause ≡ has_pair rest
pair_without x clause rest is none =
    same_tests (has_pair clause) (has_pair rest)
    (λ h. let p = pair_from clause h in
    has_pair_from rest p.literal (kept p.literal p.one (λ e. absurd
    (false≢true (sym none ∙ subst (λ (z : Lit). has clause (negation z) ≡ true) (sym e) p.other))))
    (kept (negation p.literal) p.other (λ e. absurd (false≢true (sym none
    ∙ subst (λ (z : Lit). has clause z ≡ true) (sym (negation-negation p.literal) ∙ ap negation (sym e)) p.one)))))
    (λ h. let p = pair_from rest h in has_pair_from clause p.literal (is p.literal ∙ or_right (same x p.literal) (has rest p.literal) p.one)
    (is (negation p.literal) ∙ or_right (same x (negation p.literal)) (has rest (negation p.literal)) p.other))
  where
    kept : (l : Lit) → has clause l ≡ true → (x ≡ l → has rest l ≡ true) → has rest l ≡ true
    kept l h f = elim (or_cases (same x l) (has rest l) (sym (is l) ∙ h)) [ inl e ↦ f (same_is x l e) | inr t ↦ t ]

or_turned : (a b : Bool) → (a || (b || false)) ≡ (b || a)
or_turned true true = refl
or_turned true false = refl
or_turned false true = refl
or_turned false false = refl

pub IsIncreasing-front : (xs : List Lit) (y : Lit) → IsIncreasing (xs ++ y ∷ []) →
    IsIncreasing xs × AllByRecursion (λ m. signed_number_of m <ℤ signed_number_of y) xs
IsIncreasing-front [] y up = (tt, tt)
IsIncreasing-front (x ∷ xs) y up =
    let r = IsIncreasing-front xs y up.1 in
    let above : Lit → Type 0 = λ m. signed_number_of x <ℤ signed_number_of m in
    ((each_left above xs (y ∷ []) up.0, r.0), (each_between above xs y [] up.0, r.1))

signed_number_of-negation : (l : Lit) → signed_number_of (negation l) ≡ neg_ℤ (signed_number_of l)
signed_number_of-negation l = by_sign l.index l.positive
  where
    by_sign : (i : ℕ) (p : Bool) → cond (not p) (pos (suc i)) (negsuc i) ≡ neg_ℤ (cond p (pos (suc i)) (negsuc i))
    by_sign i true = refl
    by_sign i false = refl

-- the last literal is above the first one's negation: the last takes no part in a pair
pub pair_before : (clause : List Lit) (first : Lit) (after before : List Lit) (last : Lit) → clause ≡ first ∷ after →
    clause ≡ before ++ last ∷ [] → IsIncreasing clause → signed_number_of (negation first) <ℤ signed_number_of last →
    has_pair clause ≡ has_pair before
pair_before clause first after before last begins ends up below =
    pair_without last clause before (λ l. ap (λ (xs : List Lit). has xs l) ends
    ∙ (has-append before (last ∷ []) l ∙ or_turned (has before l) (same last l)))
    (false_from_ne_true (has clause (negation last)) (λ h. at_least (subst (λ (xs : List Lit). has xs (negation last) ≡ true) begins h)
    (subst IsIncreasing begins up)))
  where
    far : (f l m : ℤ) → neg_ℤ f <ℤ l → m ≡ neg_ℤ l → f <ℤ m → ⊥
    far f l m h e k = omega (arith, ints)

    near : (f l m : ℤ) → neg_ℤ f <ℤ l → m ≡ neg_ℤ l → f ≡ m → ⊥
    near f l m h e k = omega (arith, ints)

    below' : neg_ℤ (signed_number_of first) <ℤ signed_number_of last
    below' = subst (λ z. z <ℤ signed_number_of last) (signed_number_of-negation first) below

    at_least : has (first ∷ after) (negation last) ≡ true → IsIncreasing (first ∷ after) → ⊥
    at_least h u = elim (or_cases (same first (negation last)) (has after (negation last)) h) [
      | inl e ↦ near (signed_number_of first) (signed_number_of last) (signed_number_of (negation last)) below'
          (signed_number_of-negation last) (ap signed_number_of (same_is first (negation last) e))
      | inr t ↦ far (signed_number_of first) (signed_number_of last) (signed_number_of (negation last)) below'
          (signed_number_of-negation last) (AllByRecursion-has (λ m. signed_number_of first <ℤ signed_number_of m) after
          (negation last) u.0 t)
    ]

-- the last literal is below the first one's negation: the first takes no part in a pair
pub pair_after : (clause : List Lit) (first : Lit) (after before : List Lit) (last : Lit) → clause ≡ first ∷ after →
    clause ≡ before ++ last ∷ [] → IsIncreasing clause → signed_number_of last <ℤ signed_number_of (negation first) →
    has_pair clause ≡ has_pair after
pair_after clause first after before last begins ends up above =
    pair_without first clause after (λ l. ap (λ (xs : List Lit). has xs l) begins)
    (false_from_ne_true (has clause (negation first)) (λ h. at_most
    (or_cases (has before (negation first)) (has (last ∷ []) (negation first))
    (sym (has-append before (last ∷ []) (negation first)) ∙ subst (λ (xs : List Lit). has xs (negation first) ≡ true) ends h))
    (IsIncreasing-front before last (subst IsIncreasing ends up)).1))
  where
    at_most : ((has before (negation first) ≡ true) ⊎ (has (last ∷ []) (negation first) ≡ true)) →
        AllByRecursion (λ m. signed_number_of m <ℤ signed_number_of last) before → ⊥
    at_most s u = elim s [
      | inl t ↦ not_below (signed_number_of last) (signed_number_of (negation first)) above
          (AllByRecursion-has (λ m. signed_number_of m <ℤ signed_number_of last) before (negation first) u t)
      | inr h ↦ elim (or_cases (same last (negation first)) false h) [
        | inl e ↦ not_equal (signed_number_of last) (signed_number_of (negation first)) above
            (ap signed_number_of (same_is last (negation first) e))
        | inr f ↦ absurd (false≢true f)
      ]
    ]

-- the last literal is the first one's negation
pub pair_found : (clause : List Lit) (first : Lit) (after before : List Lit) (last : Lit) → clause ≡ first ∷ after →
    clause ≡ before ++ last ∷ [] → negation first ≡ last → has_pair clause ≡ true
pair_found clause first after before last begins ends is =
    has_pair_from clause first (ap (λ (xs : List Lit). has xs first) begins
    ∙ or_left (same first first) (has after first) (same_from first first refl))
    (ap (λ (xs : List Lit). has xs (negation first)) ends ∙ (has-append before (last ∷ []) (negation first)
    ∙ or_right (has before (negation first)) (has (last ∷ []) (negation first))
    (or_left (same last (negation first)) false (same_from last (negation first) (sym is)))))

pub pair_in_none : (clause : List Lit) → length clause ≡ 0 → has_pair clause ≡ false
pair_in_none [] h = refl
pair_in_none (x ∷ xs) h = absurd (omega arith)

-- ---- what comparisons of literals tell

pub below_tested : (a b : Lit) → is_lt (by_number a b) ≡ true → signed_number_of a <ℤ signed_number_of b
below_tested a b h = tells (signed_number_of a) (signed_number_of b) (int_cmp (signed_number_of a) (signed_number_of b))
    (int_ranks (signed_number_of a) (signed_number_of b)) h
  where
    tells : (x y : ℤ) (r : Ordering) → MatchOrdering r (x <ℤ y) (x ≡ y) (y <ℤ x) → is_lt r ≡ true → x <ℤ y
    tells x y Less m h = m
    tells x y Equal m h = absurd (false≢true h)
    tells x y Greater m h = absurd (false≢true h)

pub above_tested : (a b : Lit) → is_lt (by_number a b) ≡ false → same a b ≡ false → signed_number_of b <ℤ signed_number_of a
above_tested a b h n = tells (signed_number_of a) (signed_number_of b) (int_cmp (signed_number_of a) (signed_number_of b))
    (int_ranks (signed_number_of a) (signed_number_of b)) h (λ e. false≢true (sym n ∙ same_from a b (signed_number_of-injective a b e)))
  where
    tells : (x y : ℤ) (r : Ordering) → MatchOrdering r (x <ℤ y) (x ≡ y) (y <ℤ x) → is_lt r ≡ false → (x ≡ y → ⊥) → y <ℤ x
    tells x y Less m h k = absurd (false≢true (sym h))
    tells x y Equal m h k = absurd (k m)
    tells x y Greater m h k = m

-- ---- codes

-- two literals of one code are one
pub code_one : (a b : Lit) → code_of a ≡ code_of b → a ≡ b
code_one a b h = by_sign a.index b.index a.positive b.positive h
  where
    by_sign : (i j : ℕ) (p q : Bool) → 2 * i + cond p 1 0 ≡ 2 * j + cond q 1 0 →
        ◌≡◌ {A = Lit} (record { index = i; positive = p }) (record { index = j; positive = q })
    by_sign i j true true e = ap (λ (k : ℕ). record { index = k; positive = true }) (let s : i ≡ j = omega arith in s)
    by_sign i j true false e = absurd (omega arith)
    by_sign i j false true e = absurd (omega arith)
    by_sign i j false false e = ap (λ (k : ℕ). record { index = k; positive = false }) (let s : i ≡ j = omega arith in s)

pub code_within : (variables : ℕ) (l : Lit) → l.index < variables → code_of l < 2 * variables
code_within variables l below = by_sign l.positive
  where
    by_sign : (p : Bool) → 2 * l.index + cond p 1 0 < 2 * variables
    by_sign true = omega arith
    by_sign false = omega arith
