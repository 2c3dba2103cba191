-- The joins of two antichains that have nothing in common are an antichain.
use Rattle.std.proofs.Common.{◌≡◌, ◌∙◌, ℕ, ◌%◌, ◌<◌, ◌≤◌, length, Bool, true, false, ◌&&◌, ◌||◌, ◌==◌, cond, List, [], ◌∷◌, ◌++◌, map, Some, nat_eq}
use Rattle.std.proofs.Common.{None, refl, sym, ap, subst, arith, bit_and, bit_or, min, max}
use Rattle.std.specs.Prelude.{bit_xor}
use Rattle.std.specs.Int.{bit_at}
use Rattle.std.specs.List.{list_any, list_all, filter_map, cons_option, AllByRecursion}
use Rattle.std.specs.declared.cmp.Ordering.TheVariants.{Equal}
use Rattle.std.specs.Int.Bits.{and_self}
use Rattle.std.specs.Ordering.{nat_cmp}
use Rattle.std.proofs.lemmas.Cmp.{ranked}
use Rattle.std.proofs.lemmas.Bool.{eqb-true, le-ltb, false≢true, and_parts}
use Rattle.std.proofs.lemmas.Nat.Bits.{bit_at_and, bit_at_or, bit_at-lt, bit_at-zero, bit_at-pow_same, same_from_bits}
use Rattle.base_library.proofs.Each.{each_both, each_joined, each_map, each_weaker}
use Rattle.ltl_formula.specs.Increasing.{union}
use Rattle.ltl_formula.proofs.IncreasingLemmas.{any-union, all-union}
use Rattle.obligations.specs.Choices.{same_choice, is_within, is_subset, joined, joins, reduced, formed, product, most_choices}
use Rattle.obligations.specs.Numbers.{ChoiceKey}
use Rattle.obligations.specs.internal.Rounds.{is_rising, numbers_rise}
use Rattle.obligations.specs.internal.Antichains.{AreApart, IsAntichain, gathered, cares, mark, marks_of, all_marks, have_nothing_in_common}
use Rattle.obligations.proofs.WithinLemmas.{within_is, is_within_key, same_key_is, subset_itself}
use Rattle.obligations.proofs.Antichains.{antichain_is_reduced}
use Rattle.obligations.proofs.CubeJoins.{at_and, within_both}

-- ---- one bit: c and e are asked for by left choices, d and f by right ones, within masks l and r that have no bit in common

module _ (c e d f l r : ℕ) (c2 : c < 2) (e2 : e < 2) (d2 : d < 2) (f2 : f < 2) (l2 : l < 2) (r2 : r < 2) (cl : min c l ≡ c) (el : min e l ≡ e)
    (dr : min d r ≡ d) (fr : min f r ≡ f) (lr : min l r ≡ 0) where
  left_care : min (max c d) (max e f) ≡ max c d → min c e ≡ c
  left_care h = omega (arith, c2, e2, d2, f2, l2, r2, cl, el, dr, fr, lr, h)

  right_care : min (max c d) (max e f) ≡ max c d → min d f ≡ d
  right_care h = omega (arith, c2, e2, d2, f2, l2, r2, cl, el, dr, fr, lr, h)

  -- w and x are wanted of c and e, y and v of d and f
  module _ (w x y v : ℕ) (w2 : w < 2) (x2 : x < 2) (y2 : y < 2) (v2 : v < 2) (wc : min w c ≡ w) (xe : min x e ≡ x) (yd : min y d ≡ y)
      (vf : min v f ≡ v) where
    left_want : min (max x v) (max c d) ≡ max w y → min x c ≡ w
    left_want h = omega (arith, c2, e2, d2, f2, l2, r2, w2, x2, y2, v2, cl, el, dr, fr, lr, wc, xe, yd, vf, h)

    right_want : min (max x v) (max c d) ≡ max w y → min v d ≡ y
    right_want h = omega (arith, c2, e2, d2, f2, l2, r2, w2, x2, y2, v2, cl, el, dr, fr, lr, wc, xe, yd, vf, h)

-- ---- all bits

-- the bit that stands for a number is one of a mask
abbrev pub IsMarked : ℕ → ℕ → Type 0
IsMarked marks n = bit_and (mark n) marks ≡ mark n

-- a choice asks for bits of a mask alone, and wants none that it does not ask for; bits of another one stand for what it leaves
pub record IsOf (mask marks : ℕ) (c : ChoiceKey) : Type 0 where
  pub care : bit_and c.care mask ≡ c.care
  pub want : bit_and c.want c.care ≡ c.want
  pub next : AllByRecursion (IsMarked marks) c.next_set
  pub postponed : AllByRecursion (IsMarked marks) c.postponed

-- two choices together
abbrev pub both : ChoiceKey → ChoiceKey → ChoiceKey
both c d = record {
  care = bit_or c.care d.care;
  want = bit_or c.want d.want;
  next_set = union nat_cmp c.next_set d.next_set;
  postponed = union nat_cmp c.postponed d.postponed;
}

not_so : (a b : Bool) → (a ≡ true → b ≡ true) → b ≡ false → a ≡ false
not_so false b so is = refl
not_so true b so is = absurd (false≢true (sym is ∙ so refl))

equal_numbers : (m n : ℕ) → nat_cmp m n ≡ Equal → m ≡ n
equal_numbers m n h = rw h at (ranked m n (nat_cmp m n) refl)

-- a subset of unions, side by side
of_unions : (p q s t : List ℕ) → is_subset nat_eq (union nat_cmp p q) (union nat_cmp s t) ≡ true
    → (list_all (λ n. list_any (λ m. nat_eq m n) s || list_any (λ m. nat_eq m n) t) p ≡ true)
    × (list_all (λ n. list_any (λ m. nat_eq m n) s || list_any (λ m. nat_eq m n) t) q ≡ true)
of_unions p q s t h =
    and_parts (list_all (λ n. list_any (λ m. nat_eq m n) s || list_any (λ m. nat_eq m n) t) p)
    (list_all (λ n. list_any (λ m. nat_eq m n) s || list_any (λ m. nat_eq m n) t) q)
    (sym (all-union nat_cmp equal_numbers (λ n. list_any (λ m. nat_eq m n) s || list_any (λ m. nat_eq m n) t) p q)
    ∙ (λ i. list_all (λ n. sym (any-union nat_cmp equal_numbers (λ m. nat_eq m n) s t) i) (union nat_cmp p q)) ∙ h)

all_so : (P : ℕ → Type 0) (f g : ℕ → Bool) → ((n : ℕ) → P n → f n ≡ true → g n ≡ true) → (ns : List ℕ) → AllByRecursion P ns
    → list_all f ns ≡ true → list_all g ns ≡ true
all_so P f g so [] each h = refl
all_so P f g so (n ∷ ns) each h =
    let parts = and_parts (f n) (list_all f ns) h in
    (λ i. so n each.0 parts.0 i && all_so P f g so ns each.1 parts.1 i)

first_of : (a b : Bool) → b ≡ false → (a || b) ≡ true → a ≡ true
first_of true b is h = refl
first_of false b is h = absurd (false≢true (sym is ∙ h))

second_of : (a b : Bool) → a ≡ false → (a || b) ≡ true → b ≡ true
second_of false b is h = h
second_of true b is h = absurd (false≢true (sym is))

antichains_joined : (xs ys : List ChoiceKey) → IsAntichain xs → IsAntichain ys → AllByRecursion (λ x. AllByRecursion (AreApart x) ys) xs
    → IsAntichain (xs ++ ys)
antichains_joined [] ys left right across = right
antichains_joined (x ∷ xs) ys left right across =
    (each_joined (AreApart x) xs ys left.0 across.0, antichains_joined xs ys left.1 right across.1)

module _ (l r : ℕ) (apart : bit_and l r ≡ 0) (lefts rights : ℕ) (none : bit_and lefts rights ≡ 0) where
  -- no number is marked in both
  not_both : (n m : ℕ) → IsMarked lefts n → IsMarked rights m → n ≡ m → ⊥
  not_both n m of_left of_right is =
      one (bit_at lefts (n % 64)) (bit_at rights (n % 64))
      (ap (λ b. min b (bit_at lefts (n % 64))) (sym (bit_at-pow_same (n % 64))) ∙ at_and (mark n) lefts (mark n) (n % 64) of_left
      ∙ bit_at-pow_same (n % 64))
      (ap (λ b. min b (bit_at rights (n % 64))) (sym (bit_at-pow_same (n % 64)))
      ∙ at_and (mark n) rights (mark n) (n % 64) (subst (IsMarked rights) (sym is) of_right) ∙ bit_at-pow_same (n % 64))
      (at_and lefts rights 0 (n % 64) none ∙ bit_at-zero (n % 64))
    where
      one : (a b : ℕ) → min 1 a ≡ 1 → min 1 b ≡ 1 → min a b ≡ 0 → ⊥
      one a b a1 b1 ab = omega (arith, a1, b1, ab)

  none_right : (n : ℕ) (ms : List ℕ) → IsMarked lefts n → AllByRecursion (IsMarked rights) ms → list_any (λ m. nat_eq m n) ms ≡ false
  none_right n [] of each = refl
  none_right n (m ∷ ms) of each = by (nat_eq m n) refl (none_right n ms of each.1)
    where
      by : (b : Bool) → nat_eq m n ≡ b → list_any (λ k. nat_eq k n) ms ≡ false → (nat_eq m n || list_any (λ k. nat_eq k n) ms) ≡ false
      by false is rest = (λ i. is i || rest i)
      by true is rest = absurd (not_both n m of each.0 (sym (eqb-true m n is)))

  none_left : (n : ℕ) (ms : List ℕ) → IsMarked rights n → AllByRecursion (IsMarked lefts) ms → list_any (λ m. nat_eq m n) ms ≡ false
  none_left n [] of each = refl
  none_left n (m ∷ ms) of each = by (nat_eq m n) refl (none_left n ms of each.1)
    where
      by : (b : Bool) → nat_eq m n ≡ b → list_any (λ k. nat_eq k n) ms ≡ false → (nat_eq m n || list_any (λ k. nat_eq k n) ms) ≡ false
      by false is rest = (λ i. is i || rest i)
      by true is rest = absurd (not_both m n each.0 of (eqb-true m n is))

  module _ (c d e f : ChoiceKey) (c_of : IsOf l lefts c) (d_of : IsOf r rights d) (e_of : IsOf l lefts e) (f_of : IsOf r rights f) where
    masks_at : (i : ℕ) → min (bit_at l i) (bit_at r i) ≡ 0
    masks_at i = at_and l r 0 i apart ∙ bit_at-zero i

    cares_at : bit_and (bit_or c.care d.care) (bit_or e.care f.care) ≡ bit_or c.care d.care → (i : ℕ)
        → min (max (bit_at c.care i) (bit_at d.care i)) (max (bit_at e.care i) (bit_at f.care i)) ≡ max (bit_at c.care i) (bit_at d.care i)
    cares_at h i =
        (λ k. min (sym (bit_at_or c.care d.care i) k) (sym (bit_at_or e.care f.care i) k))
        ∙ at_and (bit_or c.care d.care) (bit_or e.care f.care) (bit_or c.care d.care) i h ∙ bit_at_or c.care d.care i

    wants_at : bit_and (bit_or e.want f.want) (bit_or c.care d.care) ≡ bit_or c.want d.want → (i : ℕ)
        → min (max (bit_at e.want i) (bit_at f.want i)) (max (bit_at c.care i) (bit_at d.care i)) ≡ max (bit_at c.want i) (bit_at d.want i)
    wants_at h i =
        (λ k. min (sym (bit_at_or e.want f.want i) k) (sym (bit_at_or c.care d.care i) k))
        ∙ at_and (bit_or e.want f.want) (bit_or c.care d.care) (bit_or c.want d.want) i h ∙ bit_at_or c.want d.want i

    pub care_left : bit_and (bit_or c.care d.care) (bit_or e.care f.care) ≡ bit_or c.care d.care → bit_and c.care e.care ≡ c.care
    care_left h = same_from_bits (bit_and c.care e.care) c.care (λ i.
        bit_at_and c.care e.care i
        ∙ left_care (bit_at c.care i) (bit_at e.care i) (bit_at d.care i) (bit_at f.care i) (bit_at l i) (bit_at r i) (bit_at-lt c.care i)
        (bit_at-lt e.care i) (bit_at-lt d.care i) (bit_at-lt f.care i) (bit_at-lt l i) (bit_at-lt r i) (at_and c.care l c.care i c_of.care)
        (at_and e.care l e.care i e_of.care) (at_and d.care r d.care i d_of.care) (at_and f.care r f.care i f_of.care) (masks_at i)
        (cares_at h i))

    pub care_right : bit_and (bit_or c.care d.care) (bit_or e.care f.care) ≡ bit_or c.care d.care → bit_and d.care f.care ≡ d.care
    care_right h = same_from_bits (bit_and d.care f.care) d.care (λ i.
        bit_at_and d.care f.care i
        ∙ right_care (bit_at c.care i) (bit_at e.care i) (bit_at d.care i) (bit_at f.care i) (bit_at l i) (bit_at r i) (bit_at-lt c.care i)
        (bit_at-lt e.care i) (bit_at-lt d.care i) (bit_at-lt f.care i) (bit_at-lt l i) (bit_at-lt r i) (at_and c.care l c.care i c_of.care)
        (at_and e.care l e.care i e_of.care) (at_and d.care r d.care i d_of.care) (at_and f.care r f.care i f_of.care) (masks_at i)
        (cares_at h i))

    pub want_left : bit_and (bit_or e.want f.want) (bit_or c.care d.care) ≡ bit_or c.want d.want → bit_and e.want c.care ≡ c.want
    want_left h = same_from_bits (bit_and e.want c.care) c.want (λ i.
        bit_at_and e.want c.care i
        ∙ left_want (bit_at c.care i) (bit_at e.care i) (bit_at d.care i) (bit_at f.care i) (bit_at l i) (bit_at r i) (bit_at-lt c.care i)
        (bit_at-lt e.care i) (bit_at-lt d.care i) (bit_at-lt f.care i) (bit_at-lt l i) (bit_at-lt r i) (at_and c.care l c.care i c_of.care)
        (at_and e.care l e.care i e_of.care) (at_and d.care r d.care i d_of.care) (at_and f.care r f.care i f_of.care) (masks_at i)
        (bit_at c.want i) (bit_at e.want i) (bit_at d.want i) (bit_at f.want i) (bit_at-lt c.want i) (bit_at-lt e.want i) (bit_at-lt d.want i)
        (bit_at-lt f.want i) (at_and c.want c.care c.want i c_of.want) (at_and e.want e.care e.want i e_of.want)
        (at_and d.want d.care d.want i d_of.want) (at_and f.want f.care f.want i f_of.want) (wants_at h i))

    pub want_right : bit_and (bit_or e.want f.want) (bit_or c.care d.care) ≡ bit_or c.want d.want → bit_and f.want d.care ≡ d.want
    want_right h = same_from_bits (bit_and f.want d.care) d.want (λ i.
        bit_at_and f.want d.care i
        ∙ right_want (bit_at c.care i) (bit_at e.care i) (bit_at d.care i) (bit_at f.care i) (bit_at l i) (bit_at r i) (bit_at-lt c.care i)
        (bit_at-lt e.care i) (bit_at-lt d.care i) (bit_at-lt f.care i) (bit_at-lt l i) (bit_at-lt r i) (at_and c.care l c.care i c_of.care)
        (at_and e.care l e.care i e_of.care) (at_and d.care r d.care i d_of.care) (at_and f.care r f.care i f_of.care) (masks_at i)
        (bit_at c.want i) (bit_at e.want i) (bit_at d.want i) (bit_at f.want i) (bit_at-lt c.want i) (bit_at-lt e.want i) (bit_at-lt d.want i)
        (bit_at-lt f.want i) (at_and c.want c.care c.want i c_of.want) (at_and e.want e.care e.want i e_of.want)
        (at_and d.want d.care d.want i d_of.want) (at_and f.want f.care f.want i f_of.want) (wants_at h i))

    -- ---- what choices leave

    sets_left : (p q s t : List ℕ) → AllByRecursion (IsMarked lefts) p → AllByRecursion (IsMarked rights) t
        → is_subset nat_eq (union nat_cmp p q) (union nat_cmp s t) ≡ true → is_subset nat_eq p s ≡ true
    sets_left p q s t p_of t_of h =
        all_so (IsMarked lefts) (λ n. list_any (λ m. nat_eq m n) s || list_any (λ m. nat_eq m n) t) (λ n. list_any (λ m. nat_eq m n) s)
        (λ n of is. first_of (list_any (λ m. nat_eq m n) s) (list_any (λ m. nat_eq m n) t) (none_right n t of t_of) is) p p_of
        (of_unions p q s t h).0

    sets_right : (p q s t : List ℕ) → AllByRecursion (IsMarked rights) q → AllByRecursion (IsMarked lefts) s
        → is_subset nat_eq (union nat_cmp p q) (union nat_cmp s t) ≡ true → is_subset nat_eq q t ≡ true
    sets_right p q s t q_of s_of h =
        all_so (IsMarked rights) (λ n. list_any (λ m. nat_eq m n) s || list_any (λ m. nat_eq m n) t) (λ n. list_any (λ m. nat_eq m n) t)
        (λ n of is. second_of (list_any (λ m. nat_eq m n) s) (list_any (λ m. nat_eq m n) t) (none_left n s of s_of) is) q q_of
        (of_unions p q s t h).1

    within_left : is_within nat_eq (both c d) (both e f) ≡ true → is_within nat_eq c e ≡ true
    within_left h = let w = within_is (both c d) (both e f) h in is_within_key c e (record {
      care = care_left w.care;
      want = want_left w.want;
      next = sets_left c.next_set d.next_set e.next_set f.next_set c_of.next f_of.next w.next;
      postponed = sets_left c.postponed d.postponed e.postponed f.postponed c_of.postponed f_of.postponed w.postponed;
    })

    within_right : is_within nat_eq (both c d) (both e f) ≡ true → is_within nat_eq d f ≡ true
    within_right h = let w = within_is (both c d) (both e f) h in is_within_key d f (record {
      care = care_right w.care;
      want = want_right w.want;
      next = sets_right c.next_set d.next_set e.next_set f.next_set d_of.next e_of.next w.next;
      postponed = sets_right c.postponed d.postponed e.postponed f.postponed d_of.postponed e_of.postponed w.postponed;
    })

    both_within : is_within nat_eq (both c d) (both c d) ≡ true
    both_within = is_within_key (both c d) (both c d) (record {
      care = and_self (bit_or c.care d.care);
      want = within_both c.care c.want d.care d.want c_of.want d_of.want;
      next = subset_itself (union nat_cmp c.next_set d.next_set);
      postponed = subset_itself (union nat_cmp c.postponed d.postponed);
    })

    -- where neither lies within the other they differ
    differ_from : is_within nat_eq (both c d) (both e f) ≡ false → same_choice nat_eq (both e f) (both c d) ≡ false
    differ_from first = by (same_choice nat_eq (both e f) (both c d)) refl
      where
        by : (b : Bool) → same_choice nat_eq (both e f) (both c d) ≡ b → b ≡ false
        by false is = refl
        by true is = absurd (false≢true (sym first ∙ ap (λ x. is_within nat_eq (both c d) x) (same_key_is (both e f) (both c d) is) ∙ both_within))

    -- they can be joined
    none_contradicts : bit_and (bit_xor c.want d.want) (bit_and c.care d.care) ≡ 0
    none_contradicts = same_from_bits (bit_and (bit_xor c.want d.want) (bit_and c.care d.care)) 0 (λ i.
        bit_at_and (bit_xor c.want d.want) (bit_and c.care d.care) i ∙ ap (min (bit_at (bit_xor c.want d.want) i)) (bit_at_and c.care d.care i)
        ∙ low (bit_at (bit_xor c.want d.want) i) (bit_at c.care i) (bit_at d.care i) (bit_at l i) (bit_at r i)
        (at_and c.care l c.care i c_of.care) (at_and d.care r d.care i d_of.care) (masks_at i) (bit_at-lt c.care i) (bit_at-lt d.care i)
        (bit_at-lt l i) (bit_at-lt r i)
        ∙ sym (bit_at-zero i))
      where
        low : (x c d l r : ℕ) → min c l ≡ c → min d r ≡ d → min l r ≡ 0 → c < 2 → d < 2 → l < 2 → r < 2 → min x (min c d) ≡ 0
        low x c d l r cl dr lr c2 d2 l2 r2 = omega (arith, cl, dr, lr, c2, d2, l2, r2)

    joined_is : joined nat_eq nat_cmp c d ≡ Some (both c d)
    joined_is = ap (λ n. cond (n == 0) (Some (both c d)) None) none_contradicts

  -- ---- lists

  apart_by : (c d e f : ChoiceKey) (c_of : IsOf l lefts c) (d_of : IsOf r rights d) (e_of : IsOf l lefts e) (f_of : IsOf r rights f)
      → is_within nat_eq (both c d) (both e f) ≡ false → is_within nat_eq (both e f) (both c d) ≡ false → AreApart (both c d) (both e f)
  apart_by c d e f c_of d_of e_of f_of first second = record {
    differ = differ_from c d e f c_of d_of e_of f_of first;
    first = first;
    second = second;
  }

  cross_apart : (c d e f : ChoiceKey) → IsOf l lefts c → IsOf r rights d → IsOf l lefts e → IsOf r rights f → AreApart c e
      → AreApart (both c d) (both e f)
  cross_apart c d e f c_of d_of e_of f_of apart =
      apart_by c d e f c_of d_of e_of f_of
      (not_so (is_within nat_eq (both c d) (both e f)) (is_within nat_eq c e) (within_left c d e f c_of d_of e_of f_of) apart.first)
      (not_so (is_within nat_eq (both e f) (both c d)) (is_within nat_eq e c) (within_left e f c d e_of f_of c_of d_of) apart.second)

  row_apart : (c d f : ChoiceKey) → IsOf l lefts c → IsOf r rights d → IsOf r rights f → AreApart d f → AreApart (both c d) (both c f)
  row_apart c d f c_of d_of f_of apart =
      apart_by c d c f c_of d_of c_of f_of
      (not_so (is_within nat_eq (both c d) (both c f)) (is_within nat_eq d f) (within_right c d c f c_of d_of c_of f_of) apart.first)
      (not_so (is_within nat_eq (both c f) (both c d)) (is_within nat_eq f d) (within_right c f c d c_of f_of c_of d_of) apart.second)

  row_is : (c : ChoiceKey) (ds : List ChoiceKey) → IsOf l lefts c → AllByRecursion (IsOf r rights) ds
      → filter_map (joined nat_eq nat_cmp c) ds ≡ map (both c) ds
  row_is c [] c_of each = refl
  row_is c (d ∷ ds) c_of each =
      ap (λ o. cons_option o (filter_map (joined nat_eq nat_cmp c) ds)) (joined_is c d c d c_of each.0 c_of each.0)
      ∙ ap (λ t. both c d ∷ t) (row_is c ds c_of each.1)

  row_antichain : (c : ChoiceKey) (ds : List ChoiceKey) → IsOf l lefts c → AllByRecursion (IsOf r rights) ds → IsAntichain ds
      → IsAntichain (map (both c) ds)
  row_antichain c [] c_of each anti = tt
  row_antichain c (d ∷ ds) c_of each anti = (
    each_map (AreApart (both c d)) (both c) ds
        (each_both (AreApart d) (IsOf r rights) (λ f. AreApart (both c d) (both c f))
        (λ f apart f_of. row_apart c d f c_of each.0 f_of apart) ds anti.0 each.1),
    row_antichain c ds c_of each.1 anti.1,
  )

  -- one join, and the joins of other left choices
  one_cross : (c d : ChoiceKey) (es ds : List ChoiceKey) → IsOf l lefts c → IsOf r rights d → AllByRecursion (IsOf l lefts) es
      → AllByRecursion (IsOf r rights) ds → AllByRecursion (AreApart c) es → AllByRecursion (AreApart (both c d)) (joins nat_eq nat_cmp es ds)
  one_cross c d [] ds c_of d_of each_left each_right apart = tt
  one_cross c d (e ∷ es) ds c_of d_of each_left each_right apart =
      each_joined (AreApart (both c d)) (filter_map (joined nat_eq nat_cmp e) ds) (joins nat_eq nat_cmp es ds)
      (subst (AllByRecursion (AreApart (both c d))) (sym (row_is e ds each_left.0 each_right))
      (each_map (AreApart (both c d)) (both e) ds
      (each_weaker (IsOf r rights) (λ f. AreApart (both c d) (both e f))
      (λ f f_of. cross_apart c d e f c_of d_of each_left.0 f_of apart.0) ds each_right)))
      (one_cross c d es ds c_of d_of each_left.1 each_right apart.1)

  pub joins_antichain : (cs ds : List ChoiceKey) → AllByRecursion (IsOf l lefts) cs → AllByRecursion (IsOf r rights) ds → IsAntichain cs
      → IsAntichain ds → IsAntichain (joins nat_eq nat_cmp cs ds)
  joins_antichain [] ds each_left each_right left right = tt
  joins_antichain (c ∷ cs) ds each_left each_right left right =
      antichains_joined (filter_map (joined nat_eq nat_cmp c) ds) (joins nat_eq nat_cmp cs ds)
      (subst IsAntichain (sym (row_is c ds each_left.0 each_right)) (row_antichain c ds each_left.0 each_right right))
      (joins_antichain cs ds each_left.1 each_right left.1 right)
      (subst (AllByRecursion (λ x. AllByRecursion (AreApart x) (joins nat_eq nat_cmp cs ds))) (sym (row_is c ds each_left.0 each_right))
      (each_map (λ x. AllByRecursion (AreApart x) (joins nat_eq nat_cmp cs ds)) (both c) ds
      (each_weaker (IsOf r rights) (λ d. AllByRecursion (AreApart (both c d)) (joins nat_eq nat_cmp cs ds))
      (λ d d_of. one_cross c d cs ds each_left.0 d_of each_left.1 each_right left.0) ds each_right)))

-- ---- from the test

one_of_two : (a b k : ℕ) → a < 2 → b < 2 → k < 2 → min (max a b) k ≡ max a b → min a k ≡ a
one_of_two a b k a2 b2 k2 h = omega (arith, a2, b2, k2, h)

mask_first : (a b k : ℕ) → bit_and (bit_or a b) k ≡ bit_or a b → bit_and a k ≡ a
mask_first a b k h = same_from_bits (bit_and a k) a (λ i.
    bit_at_and a k i ∙ one_of_two (bit_at a i) (bit_at b i) (bit_at k i) (bit_at-lt a i) (bit_at-lt b i) (bit_at-lt k i)
    (ap (λ z. min z (bit_at k i)) (sym (bit_at_or a b i)) ∙ at_and (bit_or a b) k (bit_or a b) i h ∙ bit_at_or a b i))

two_of_two : (a b k : ℕ) → a < 2 → b < 2 → k < 2 → min (max a b) k ≡ max a b → min b k ≡ b
two_of_two a b k a2 b2 k2 h = omega (arith, a2, b2, k2, h)

mask_rest : (a b k : ℕ) → bit_and (bit_or a b) k ≡ bit_or a b → bit_and b k ≡ b
mask_rest a b k h = same_from_bits (bit_and b k) b (λ i.
    bit_at_and b k i ∙ two_of_two (bit_at a i) (bit_at b i) (bit_at k i) (bit_at-lt a i) (bit_at-lt b i) (bit_at-lt k i)
    (ap (λ z. min z (bit_at k i)) (sym (bit_at_or a b i)) ∙ at_and (bit_or a b) k (bit_or a b) i h ∙ bit_at_or a b i))

each_marked : (marks : ℕ) (ns : List ℕ) → bit_and (gathered mark ns) marks ≡ gathered mark ns → AllByRecursion (IsMarked marks) ns
each_marked marks [] within = tt
each_marked marks (n ∷ ns) within =
    (mask_first (mark n) (gathered mark ns) marks within, each_marked marks ns (mask_rest (mark n) (gathered mark ns) marks within))

each_of : (mask marks : ℕ) (cs : List ChoiceKey) → bit_and (cares cs) mask ≡ cares cs → bit_and (all_marks cs) marks ≡ all_marks cs
    → list_all is_rising cs ≡ true → AllByRecursion (IsOf mask marks) cs
each_of mask marks [] within marked rising = tt
each_of mask marks (c ∷ cs) within marked rising =
    let parts = and_parts (is_rising c) (list_all is_rising cs) rising in
    let own = mask_first (marks_of c) (all_marks cs) marks marked in (
      record {
        care = mask_first c.care (cares cs) mask within;
        want = eqb-true (bit_and c.want c.care) c.want (and_parts (bit_and c.want c.care == c.want) (numbers_rise c.next_set && numbers_rise c.postponed) parts.0).0;
        next = each_marked marks c.next_set (mask_first (gathered mark c.next_set) (gathered mark c.postponed) marks own);
        postponed = each_marked marks c.postponed (mask_rest (gathered mark c.next_set) (gathered mark c.postponed) marks own);
      },
      each_of mask marks cs (mask_rest c.care (cares cs) mask within) (mask_rest (marks_of c) (all_marks cs) marks marked) parts.1,
    )

pub apart_joins_antichain : (cs ds : List ChoiceKey) → IsAntichain cs → IsAntichain ds → have_nothing_in_common cs ds ≡ true
    → IsAntichain (joins nat_eq nat_cmp cs ds)
apart_joins_antichain cs ds left right h =
    let a = and_parts (bit_and (cares cs) (cares ds) == 0) ((bit_and (all_marks cs) (all_marks ds) == 0)
    && (list_all is_rising cs && list_all is_rising ds)) h in
    let b = and_parts (bit_and (all_marks cs) (all_marks ds) == 0) (list_all is_rising cs && list_all is_rising ds) a.1 in
    let rising = and_parts (list_all is_rising cs) (list_all is_rising ds) b.1 in
    joins_antichain (cares cs) (cares ds) (eqb-true (bit_and (cares cs) (cares ds)) 0 a.0) (all_marks cs) (all_marks ds)
    (eqb-true (bit_and (all_marks cs) (all_marks ds)) 0 b.0) cs ds
    (each_of (cares cs) (all_marks cs) cs (and_self (cares cs)) (and_self (all_marks cs)) rising.0)
    (each_of (cares ds) (all_marks ds) ds (and_self (cares ds)) (and_self (all_marks ds)) rising.1) left right

-- so their product is that of joins alone
pub apart_product : (cs ds list : List ChoiceKey) → IsAntichain cs → IsAntichain ds → have_nothing_in_common cs ds ≡ true
    → list ≡ joins nat_eq nat_cmp cs ds → length list ≤ most_choices → product nat_eq nat_cmp cs ds ≡ Some list
apart_product cs ds list left right h is few =
    ap (λ l. formed nat_eq l) (sym is)
    ∙ ap (λ b. cond b None (Some (reduced nat_eq list))) (le-ltb most_choices (length list) few)
    ∙ ap Some (antichain_is_reduced list (subst IsAntichain (sym is) (apart_joins_antichain cs ds left right h)))
