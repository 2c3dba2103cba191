-- Tests that all members of a list pass, or some, and lists of those that pass.
use Rattle.std.proofs.Common.{
  ◌≡◌,
  ℕ,
  zero,
  suc,
  ◌+◌,
  ◌<◌,
  ◌≤◌,
  Bool,
  true,
  false,
  ◌&&◌,
  ◌||◌,
  cond,
  List,
  [],
  ◌∷◌,
  ◌++◌,
  length,
  map,
  filter,
  flat_map,
  take,
  get_or,
  Some,
  slice_get,
  Contains,
  refl,
  sym,
  ap,
  ◌∙◌,
  arith,
  inl,
  inr,
}
use Rattle.std.specs.Prelude.{IsTrue}
use Rattle.std.specs.Option.{option_map_or}
use Rattle.std.specs.List.{AllByRecursion, list_all, list_any, prefix_len}
use Rattle.std.proofs.lemmas.Bool.{and_parts, and_from, or_cases, or_left, or_right, cond-true}
use Rattle.std.proofs.lemmas.List.Folds.{list_all-append}
use Rattle.std.proofs.lemmas.Option.{none-some, same_Some}

module _ {X : Type 0} (p : X → Bool) where
  -- what each member passes, by a place, by a number within, or by membership
  pub passes_at : (xs : List X) (i : ℕ) (x : X) → list_all p xs ≡ true → slice_get xs i ≡ Some x → p x ≡ true
  passes_at [] i x all is = absurd (none-some x is)
  passes_at (y ∷ ys) zero x all is = sym (ap p (same_Some y x is)) ∙ (and_parts (p y) (list_all p ys) all).0
  passes_at (y ∷ ys) (suc i) x all is = passes_at ys i x (and_parts (p y) (list_all p ys) all).1 is

  pub passes_within : (xs : List X) (i : ℕ) (d : X) → list_all p xs ≡ true → i < length xs → p (get_or xs i d) ≡ true
  passes_within [] i d all within = absurd (omega arith)
  passes_within (x ∷ xs) zero d all within = (and_parts (p x) (list_all p xs) all).0
  passes_within (x ∷ xs) (suc i) d all within = passes_within xs i d (and_parts (p x) (list_all p xs) all).1 (omega arith)

  pub passes_contained : (xs : List X) (x : X) → list_all p xs ≡ true → Contains xs x → p x ≡ true
  passes_contained [] x all stands = absurd (omega (arith, stands.1))
  passes_contained (y ∷ ys) x all (zero, within, is) = sym (ap p is) ∙ (and_parts (p y) (list_all p ys) all).0
  passes_contained (y ∷ ys) x all (suc k, within, is) = passes_contained ys x (and_parts (p y) (list_all p ys) all).1 (k, omega arith, is)

  -- and the other way round
  pub list_all_from_places : (xs : List X) → ((i : ℕ) (x : X) → slice_get xs i ≡ Some x → p x ≡ true) → list_all p xs ≡ true
  list_all_from_places [] at = refl
  list_all_from_places (x ∷ xs) at = and_from (p x) (list_all p xs) (at zero x refl) (list_all_from_places xs (λ i y is. at (suc i) y is))

  pub list_all_from_contained : (xs : List X) → ((x : X) → Contains xs x → p x ≡ true) → list_all p xs ≡ true
  list_all_from_contained [] each = refl
  list_all_from_contained (x ∷ xs) each =
      and_from (p x) (list_all p xs) (each x (0, omega arith, refl))
      (list_all_from_contained xs (λ y stands. each y (suc stands.0, omega (arith, stands.1), stands.2)))

  -- as a fact by recursion
  pub each_from_list_all : (xs : List X) → list_all p xs ≡ true → AllByRecursion (λ x. p x ≡ true) xs
  each_from_list_all [] all = tt
  each_from_list_all (x ∷ xs) all = let parts = and_parts (p x) (list_all p xs) all in (parts.0, each_from_list_all xs parts.1)

  pub list_all_from_each : (xs : List X) → AllByRecursion (λ x. p x ≡ true) xs → list_all p xs ≡ true
  list_all_from_each [] each = refl
  list_all_from_each (x ∷ xs) each = and_from (p x) (list_all p xs) each.0 (list_all_from_each xs each.1)

  -- what some member passes
  pub list_any_contained : (xs : List X) (x : X) → Contains xs x → p x ≡ true → list_any p xs ≡ true
  list_any_contained [] x stands passes = absurd (omega (arith, stands.1))
  list_any_contained (y ∷ ys) x (zero, within, is) passes = or_left (p y) (list_any p ys) (ap p is ∙ passes)
  list_any_contained (y ∷ ys) x (suc k, within, is) passes =
      or_right (p y) (list_any p ys) (list_any_contained ys x (k, omega arith, is) passes)

  pub list_any_place : (xs : List X) → list_any p xs ≡ true → (i : ℕ) × (x : X) × (slice_get xs i ≡ Some x) × (p x ≡ true)
  list_any_place [] some = absurd cc
  list_any_place (x ∷ xs) some = elim (or_cases (p x) (list_any p xs) some) [
    | inl passes ↦ (0, x, refl, passes)
    | inr later ↦ (let r = list_any_place xs later in (suc r.0, r.1, r.2, r.3))
  ]

  -- one member that does not pass
  pub not_all : (xs : List X) (y : X) (ys : List X) → p y ≡ false → list_all p (xs ++ y ∷ ys) ≡ false
  not_all [] y ys fails = ap (λ b. b && list_all p ys) fails
  not_all (x ∷ xs) y ys fails = ap (λ b. p x && b) (not_all xs y ys fails) ∙ never (p x)
    where
      never : (b : Bool) → (b && false) ≡ false
      never true = refl
      never false = refl

  -- those that pass
  pub filter_at : (xs : List X) (i : ℕ) (x : X) → slice_get (filter p xs) i ≡ Some x → p x ≡ true
  filter_at [] i x is = absurd (none-some x is)
  filter_at (y ∷ ys) i x is = by (p y) refl i is (filter_at ys)
    where
      by : (b : Bool) → p y ≡ b → (i : ℕ) → slice_get (cond b (y ∷ filter p ys) (filter p ys)) i ≡ Some x →
          ((j : ℕ) (z : X) → slice_get (filter p ys) j ≡ Some z → p z ≡ true) → p x ≡ true
      by true passes zero is further = ap p (sym (same_Some y x is)) ∙ passes
      by true passes (suc i) is further = further i x is
      by false fails i is further = further i x is

  pub filter_has : (xs : List X) (i : ℕ) (x : X) → slice_get xs i ≡ Some x → p x ≡ true → (k : ℕ) × (slice_get (filter p xs) k ≡ Some x)
  filter_has [] i x is passes = absurd (none-some x is)
  filter_has (y ∷ ys) zero x is passes =
      let same : y ≡ x = same_Some y x is in
      (0, ap (λ b. slice_get (cond b (y ∷ filter p ys) (filter p ys)) 0) (ap p same ∙ passes) ∙ ap Some same)
  filter_has (y ∷ ys) (suc i) x is passes = by (p y) (filter_has ys i x is passes)
    where
      by : (b : Bool) → (k : ℕ) × (slice_get (filter p ys) k ≡ Some x) →
          (k : ℕ) × (slice_get (cond b (y ∷ filter p ys) (filter p ys)) k ≡ Some x)
      by true k = (suc k.0, k.1)
      by false k = k

  pub filter_within : (xs : List X) → length (filter p xs) ≤ length xs
  filter_within [] = omega arith
  filter_within (x ∷ xs) = by (p x) (filter_within xs)
    where
      by : (b : Bool) → length (filter p xs) ≤ length xs → length (cond b (x ∷ filter p xs) (filter p xs)) ≤ suc (length xs)
      by true h = omega (arith, h)
      by false h = omega (arith, h)

  pub filter_push : (xs : List X) (y : X) → filter p (xs ++ y ∷ []) ≡ filter p xs ++ cond (p y) (y ∷ []) []
  filter_push [] y = refl
  filter_push (x ∷ xs) y = rw (filter_push xs y) (by (p x))
    where
      by : (b : Bool) → cond b (x ∷ (filter p xs ++ cond (p y) (y ∷ []) [])) (filter p xs ++ cond (p y) (y ∷ []) [])
          ≡ cond b (x ∷ filter p xs) (filter p xs) ++ cond (p y) (y ∷ []) []
      by true = refl
      by false = refl

  -- the longest front that passes: it does pass, and each front that passes is within it
  pub list_all-prefix : (xs : List X) → list_all p (take (prefix_len p xs) xs) ≡ true
  list_all-prefix [] = refl
  list_all-prefix (x ∷ xs) = by (p x) refl (list_all-prefix xs)
    where
      by : (b : Bool) → p x ≡ b → list_all p (take (prefix_len p xs) xs) ≡ true →
          list_all p (take (cond b (1 + prefix_len p xs) 0) (x ∷ xs)) ≡ true
      by true passes rest =
          let next : 1 + prefix_len p xs ≡ suc (prefix_len p xs) = omega arith in
          ap (λ n. list_all p (take n (x ∷ xs))) next ∙ and_from (p x) _ passes rest
      by false fails rest = refl

  pub prefix_len-front : (front rest : List X) → list_all p front ≡ true → length front ≤ prefix_len p (front ++ rest)
  prefix_len-front [] rest all = omega arith
  prefix_len-front (x ∷ front) rest all =
      let parts = and_parts (p x) (list_all p front) all in
      let more = prefix_len-front front rest parts.1 in
      let here : cond (p x) (1 + prefix_len p (front ++ rest)) 0 ≡ 1 + prefix_len p (front ++ rest) = cond-true (p x) _ 0 parts.0 in
      omega arith

-- a test of what stands at a place puts the place within the list
pub within_from_test : {X : Type 0} (xs : List X) (i : ℕ) (test : X → Bool) → IsTrue (option_map_or test (slice_get xs i) false) →
    i < length xs
within_from_test [] i test passes = absurd cc
within_from_test (x ∷ xs) zero test passes = omega arith
within_from_test (x ∷ xs) (suc i) test passes = let deeper = within_from_test xs i test passes in omega arith

-- of the images of a function
pub list_any-map : {X Y : Type 0} (f : X → Y) (p : Y → Bool) (xs : List X) → list_any p (map f xs) ≡ list_any (λ x. p (f x)) xs
list_any-map f p [] = refl
list_any-map f p (x ∷ xs) = ap (λ b. p (f x) || b) (list_any-map f p xs)

pub map_passes_within : {X Y : Type 0} (f : X → Y) (p : Y → Bool) (xs : List X) (i : ℕ) (d : X) → list_all p (map f xs) ≡ true →
    i < length xs → p (f (get_or xs i d)) ≡ true
map_passes_within f p [] i d all within = absurd (omega arith)
map_passes_within f p (x ∷ xs) zero d all within = (and_parts _ _ all).0
map_passes_within f p (x ∷ xs) (suc i) d all within = map_passes_within f p xs i d (and_parts _ _ all).1 (omega arith)

pub list_all_flat_map : {X Y : Type 0} (p : X → Bool) (f : Y → List X) → ((y : Y) → list_all p (f y) ≡ true) → (ys : List Y) →
    list_all p (flat_map f ys) ≡ true
list_all_flat_map p f each [] = refl
list_all_flat_map p f each (y ∷ ys) =
    list_all-append p (f y) (flat_map f ys)
    ∙ and_from (list_all p (f y)) (list_all p (flat_map f ys)) (each y) (list_all_flat_map p f each ys)

-- one test that implies another
module _ {X : Type 0} (p q : X → Bool) (implies : (x : X) → p x ≡ true → q x ≡ true) where
  pub list_all_weaker : (xs : List X) → list_all p xs ≡ true → list_all q xs ≡ true
  list_all_weaker [] all = refl
  list_all_weaker (x ∷ xs) all =
      let parts = and_parts (p x) (list_all p xs) all in
      and_from (q x) (list_all q xs) (implies x parts.0) (list_all_weaker xs parts.1)

  pub list_all_filter : (xs : List X) → list_all q (filter p xs) ≡ true
  list_all_filter [] = refl
  list_all_filter (x ∷ xs) = by (p x) refl (list_all_filter xs)
    where
      by : (b : Bool) → p x ≡ b → list_all q (filter p xs) ≡ true → list_all q (cond b (x ∷ filter p xs) (filter p xs)) ≡ true
      by true passes rest = and_from (q x) (list_all q (filter p xs)) (implies x passes) rest
      by false fails rest = rest

-- two filters in turn are one
pub filter_filter : {X : Type 0} (p q : X → Bool) (xs : List X) → filter p (filter q xs) ≡ filter (λ x. q x && p x) xs
filter_filter p q [] = refl
filter_filter p q (x ∷ xs) = let rest = filter_filter p q xs in by rest (q x) (p x) refl
  where
    by : filter p (filter q xs) ≡ filter (λ y. q y && p y) xs → (b c : Bool) → p x ≡ c →
        filter p (cond b (x ∷ filter q xs) (filter q xs)) ≡ cond (b && p x) (x ∷ filter (λ y. q y && p y) xs) (filter (λ y. q y && p y) xs)
    by rest false c at = rest
    by rest true true at = rw at (ap (λ r. x ∷ r) rest)
    by rest true false at = rw at rest

pub filter_true : {X : Type 0} (xs : List X) → filter (λ _. true) xs ≡ xs
filter_true [] = refl
filter_true (x ∷ xs) = ap (λ rest. x ∷ rest) (filter_true xs)

-- of lists that are joined
module _ {X : Type 0} (p : X → Bool) where
  pub list_all_joined : (xs ys : List X) → list_all p xs ≡ true → list_all p ys ≡ true → list_all p (xs ++ ys) ≡ true
  list_all_joined xs ys first second = list_all-append p xs ys ∙ and_from (list_all p xs) (list_all p ys) first second

  pub list_all_parts : (xs ys : List X) → list_all p (xs ++ ys) ≡ true → (list_all p xs ≡ true) × (list_all p ys ≡ true)
  list_all_parts xs ys all = and_parts (list_all p xs) (list_all p ys) (sym (list_all-append p xs ys) ∙ all)

  pub list_all_push : (xs : List X) (x : X) → list_all p xs ≡ true → p x ≡ true → list_all p (xs ++ x ∷ []) ≡ true
  list_all_push xs x all passes = list_all_joined xs (x ∷ []) all (and_from (p x) true passes refl)

  -- a place where one fails
  pub not_all_place : (xs : List X) → list_all p xs ≡ false → (i : ℕ) × (x : X) × (slice_get xs i ≡ Some x) × (p x ≡ false)
  not_all_place [] fails = absurd cc
  not_all_place (x ∷ xs) fails = by (p x) refl fails (not_all_place xs)
    where
      by : (b : Bool) → p x ≡ b → (b && list_all p xs) ≡ false →
          (list_all p xs ≡ false → (i : ℕ) × (y : X) × (slice_get xs i ≡ Some y) × (p y ≡ false)) →
          (i : ℕ) × (y : X) × (slice_get (x ∷ xs) i ≡ Some y) × (p y ≡ false)
      by false here none rest = (0, x, refl, here)
      by true here later rest = let found = rest later in (suc found.0, found.1, found.2, found.3)
