-- Numbers from a first one on: what all of them pass, the first that passes, and how many pass without a gap.
use Rattle.std.proofs.Common.{◌≡◌, ◌∙◌, ℕ, zero, suc, ◌+◌, ◌<◌, ◌≤◌, ◌⊎◌, inl, inr, Bool, true, false, cond, List, [], ◌∷◌, map, filter}
use Rattle.std.proofs.Common.{flat_map}
use Rattle.std.proofs.Common.{Option, None, Some, slice_get, refl, sym, ap, arith}
use Rattle.std.specs.List.{list_any, list_all, range_with_len, find, prefix_len}
use Rattle.std.specs.Option.{unwrap_or}
use Rattle.std.proofs.lemmas.Option.{none-some, same_Some}
use Rattle.std.proofs.lemmas.Bool.{or_cases, or_left, or_right, false≢true, cases_lt}
use Rattle.base_library.proofs.Passes.{list_all_parts, list_all_joined}
use Rattle.bounded_encoding.specs.Reading.{first_passing}

-- what stands at a place of a table of such numbers
pub range_at : {X : Type 0} (f : ℕ → X) (a n i : ℕ) → i < n → slice_get (map f (range_with_len a n)) i ≡ Some (f (a + i))
range_at f a zero i within = absurd (omega arith)
range_at f a (suc n) zero within = let e : a ≡ a + 0 = omega arith in ap (λ k. Some (f k)) e
range_at f a (suc n) (suc i) within =
    let e : a + 1 + i ≡ a + suc i = omega arith in
    range_at f (a + 1) n i (omega arith) ∙ ap (λ k. Some (f k)) e

module _ {X : Type 0} (p : X → Bool) where
  -- lists that are joined, one for each number
  pub all_in_range : (f : ℕ → List X) (a n x : ℕ) → list_all p (flat_map f (range_with_len a n)) ≡ true → a ≤ x → x < a + n →
      list_all p (f x) ≡ true
  all_in_range f a zero x all from below = absurd (omega arith)
  all_in_range f a (suc n) x all from below =
      let parts = list_all_parts p (f a) (flat_map f (range_with_len (a + 1) n)) all in
      elim (cases_lt a x) [
        | inl later ↦ all_in_range f (a + 1) n x parts.1 (omega arith) (omega arith)
        | inr here ↦ ap (λ k. list_all p (f k)) (let e : x ≡ a = omega arith in e) ∙ parts.0
      ]

  pub all_of_range : (f : ℕ → List X) (a n : ℕ) → ((x : ℕ) → a ≤ x → x < a + n → list_all p (f x) ≡ true) →
      list_all p (flat_map f (range_with_len a n)) ≡ true
  all_of_range f a zero each = refl
  all_of_range f a (suc n) each =
      list_all_joined p (f a) (flat_map f (range_with_len (a + 1) n)) (each a (omega arith) (omega arith))
      (all_of_range f (a + 1) n (λ x from below. each x (omega arith) (omega arith)))

  -- some image
  pub any_in_range : (f : ℕ → X) (a n : ℕ) → list_any p (map f (range_with_len a n)) ≡ true →
      (x : ℕ) × (a ≤ x) × (x < a + n) × (p (f x) ≡ true)
  any_in_range f a zero some = absurd (false≢true some)
  any_in_range f a (suc n) some =
      elim (or_cases (p (f a)) (list_any p (map f (range_with_len (a + 1) n))) some) [
        | inl here ↦ (a, omega arith, omega arith, here)
        | inr later ↦ (let r = any_in_range f (a + 1) n later in (r.0, omega (arith, r.1), omega (arith, r.2), r.3))
      ]

  pub any_of_range : (f : ℕ → X) (a n x : ℕ) → a ≤ x → x < a + n → p (f x) ≡ true → list_any p (map f (range_with_len a n)) ≡ true
  any_of_range f a zero x from below passes = absurd (omega arith)
  any_of_range f a (suc n) x from below passes =
      elim (cases_lt a x) [
        | inl later ↦ or_right (p (f a)) (list_any p (map f (range_with_len (a + 1) n)))
            (any_of_range f (a + 1) n x (omega arith) (omega arith) passes)
        | inr here ↦ or_left (p (f a)) (list_any p (map f (range_with_len (a + 1) n)))
            (ap (λ k. p (f k)) (let e : a ≡ x = omega arith in e) ∙ passes)
      ]

  -- lists that are joined, one for each member
  pub all_in_list : {Y : Type 0} (f : Y → List X) (ys : List Y) (i : ℕ) (y : Y) → list_all p (flat_map f ys) ≡ true →
      slice_get ys i ≡ Some y → list_all p (f y) ≡ true
  all_in_list f [] i y all at = absurd (none-some y at)
  all_in_list f (z ∷ ys) zero y all at =
      ap (λ w. list_all p (f w)) (sym (same_Some z y at)) ∙ (list_all_parts p (f z) (flat_map f ys) all).0
  all_in_list f (z ∷ ys) (suc i) y all at = all_in_list f ys i y (list_all_parts p (f z) (flat_map f ys) all).1 at

  pub all_of_list : {Y : Type 0} (f : Y → List X) (ys : List Y) →
      ((i : ℕ) (y : Y) → slice_get ys i ≡ Some y → list_all p (f y) ≡ true) → list_all p (flat_map f ys) ≡ true
  all_of_list f [] each = refl
  all_of_list f (z ∷ ys) each =
      list_all_joined p (f z) (flat_map f ys) (each zero z refl) (all_of_list f ys (λ i y at. each (suc i) y at))

-- the numbers that pass a test among those from a first one on
module _ (test : ℕ → Bool) where
  pub filtered_in_range : (a n i x : ℕ) → slice_get (filter test (range_with_len a n)) i ≡ Some x → (a ≤ x) × (x < a + n) × (test x ≡ true)
  filtered_in_range a zero i x at = absurd (none-some x at)
  filtered_in_range a (suc n) i x at = by (test a) refl i at (λ j is. filtered_in_range (a + 1) n j x is)
    where
      wider : (a + 1 ≤ x) × (x < a + 1 + n) × (test x ≡ true) → (a ≤ x) × (x < a + suc n) × (test x ≡ true)
      wider r = (omega (arith, r.0), omega (arith, r.1), r.2)

      by : (b : Bool) → test a ≡ b → (j : ℕ) →
          slice_get (cond b (a ∷ filter test (range_with_len (a + 1) n)) (filter test (range_with_len (a + 1) n))) j ≡ Some x →
          ((k : ℕ) → slice_get (filter test (range_with_len (a + 1) n)) k ≡ Some x → (a + 1 ≤ x) × (x < a + 1 + n) × (test x ≡ true)) →
          (a ≤ x) × (x < a + suc n) × (test x ≡ true)
      by true passes zero is rest = let same : a ≡ x = same_Some a x is in (omega arith, omega arith, ap test (sym same) ∙ passes)
      by true passes (suc j) is rest = wider (rest j is)
      by false fails j is rest = wider (rest j is)

  pub filtered_of_range : (a n x : ℕ) → a ≤ x → x < a + n → test x ≡ true →
      (i : ℕ) × (slice_get (filter test (range_with_len a n)) i ≡ Some x)
  filtered_of_range a zero x from below passes = absurd (omega arith)
  filtered_of_range a (suc n) x from below passes =
      elim (cases_lt a x) [
        | inl later ↦ deeper (test a) (filtered_of_range (a + 1) n x (omega arith) (omega arith) passes)
        | inr here ↦
            let same : a ≡ x = omega arith in (
              0,
              ap (λ b. slice_get (cond b (a ∷ filter test (range_with_len (a + 1) n)) (filter test (range_with_len (a + 1) n))) 0)
                  (ap test same ∙ passes) ∙ ap Some same,
            )
      ]
    where
      deeper : (b : Bool) → (i : ℕ) × (slice_get (filter test (range_with_len (a + 1) n)) i ≡ Some x) →
          (i : ℕ) × (slice_get (cond b (a ∷ filter test (range_with_len (a + 1) n)) (filter test (range_with_len (a + 1) n))) i ≡ Some x)
      deeper true r = (suc r.0, r.1)
      deeper false r = r

module _ (test : ℕ → Bool) where
  -- the first that passes, where one does
  first_found : (a n x : ℕ) → a ≤ x → x < a + n → test x ≡ true →
      (y : ℕ) × (find test (range_with_len a n) ≡ Some y) × (test y ≡ true)
  first_found a zero x from below passes = absurd (omega arith)
  first_found a (suc n) x from below passes =
      by (test a) refl (cases_lt a x) (λ later. first_found (a + 1) n x (omega arith) (omega arith) passes)
    where
      by : (b : Bool) → test a ≡ b → (a < x) ⊎ (x ≤ a) →
          (a < x → (y : ℕ) × (find test (range_with_len (a + 1) n) ≡ Some y) × (test y ≡ true)) →
          (y : ℕ) × (cond b (Some a) (find test (range_with_len (a + 1) n)) ≡ Some y) × (test y ≡ true)
      by true here order rest = (a, refl, here)
      by false fails (inl later) rest = rest later
      by false fails (inr here) rest =
          absurd (false≢true (sym fails ∙ (ap test (let e : a ≡ x = omega arith in e) ∙ passes)))

  pub first_passes : (n x : ℕ) → x < n → test x ≡ true → test (first_passing test n) ≡ true
  first_passes n x below passes =
      let found = first_found 0 n x (omega arith) (omega arith) passes in
      ap (λ o. test (unwrap_or o 0)) found.1 ∙ found.2

  -- and it is one of them
  found_below : (a n x : ℕ) → find test (range_with_len a n) ≡ Some x → x < a + n
  found_below a zero x is = absurd cc
  found_below a (suc n) x is = by (test a) is (found_below (a + 1) n x)
    where
      by : (b : Bool) → cond b (Some a) (find test (range_with_len (a + 1) n)) ≡ Some x →
          (find test (range_with_len (a + 1) n) ≡ Some x → x < a + 1 + n) → x < a + suc n
      by true here rest = let e : a ≡ x = cc in omega arith
      by false later rest = omega (arith, rest later)

  pub first_below : (n : ℕ) → 1 ≤ n → first_passing test n < n
  first_below n some = by (find test (range_with_len 0 n)) refl
    where
      by : (o : Option ℕ) → find test (range_with_len 0 n) ≡ o → unwrap_or o 0 < n
      by None is = omega arith
      by (Some x) is = omega (arith, found_below 0 n x is)

  -- how many pass without a gap
  pub front_within : (a n : ℕ) → prefix_len test (range_with_len a n) ≤ n
  front_within a zero = omega arith
  front_within a (suc n) = by (test a) (front_within (a + 1) n)
    where
      by : (b : Bool) → prefix_len test (range_with_len (a + 1) n) ≤ n → cond b (1 + prefix_len test (range_with_len (a + 1) n)) 0 ≤ suc n
      by true rest = omega arith
      by false rest = omega arith

  pub front_passes : (a n i : ℕ) → i < prefix_len test (range_with_len a n) → test (a + i) ≡ true
  front_passes a zero i below = absurd (omega arith)
  front_passes a (suc n) i below = by (test a) refl i below (front_passes (a + 1) n)
    where
      by : (b : Bool) → test a ≡ b → (j : ℕ) → j < cond b (1 + prefix_len test (range_with_len (a + 1) n)) 0 →
          ((k : ℕ) → k < prefix_len test (range_with_len (a + 1) n) → test (a + 1 + k) ≡ true) → test (a + j) ≡ true
      by false fails j within rest = absurd (omega arith)
      by true passes zero within rest = ap test (let e : a + 0 ≡ a = omega arith in e) ∙ passes
      by true passes (suc j) within rest = ap test (let e : a + suc j ≡ a + 1 + j = omega arith in e) ∙ rest j (omega arith)

  pub front_reaches : (a n m : ℕ) → m < n → ((i : ℕ) → i ≤ m → test (a + i) ≡ true) → m < prefix_len test (range_with_len a n)
  front_reaches a zero m below each = absurd (omega arith)
  front_reaches a (suc n) m below each =
      by (test a) (ap test (let e : a ≡ a + 0 = omega arith in e) ∙ each 0 (omega arith)) m below each (front_reaches (a + 1) n)
    where
      by : (b : Bool) → b ≡ true → (k : ℕ) → k < suc n → ((i : ℕ) → i ≤ k → test (a + i) ≡ true) →
          ((l : ℕ) → l < n → ((i : ℕ) → i ≤ l → test (a + 1 + i) ≡ true) → l < prefix_len test (range_with_len (a + 1) n)) →
          k < cond b (1 + prefix_len test (range_with_len (a + 1) n)) 0
      by false never k within all rest = absurd (false≢true never)
      by true is zero within all rest = omega arith
      by true is (suc k) within all rest =
          let more = rest k (omega arith)
          (λ i least. ap test (let e : a + 1 + i ≡ a + suc i = omega arith in e) ∙ all (suc i) (omega arith)) in
          omega (arith, more)
