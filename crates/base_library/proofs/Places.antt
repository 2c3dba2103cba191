-- What stands at a place of a list: after a member is added or set, in a front, and behind one.
use Rattle.std.proofs.Common.{
  ◌≡◌,
  ℕ,
  zero,
  suc,
  ◌+◌,
  ◌-◌,
  ◌<◌,
  List,
  [],
  ◌∷◌,
  ◌++◌,
  length,
  set,
  take,
  drop,
  map,
  replicate,
  Some,
  slice_get,
  Contains,
  refl,
  sym,
  ap,
  ◌∙◌,
  arith,
  inl,
  inr,
  ◌⊎◌,
}
use Rattle.std.proofs.lemmas.Option.{none-some, same_Some, slice_get_within, get_or_from_slice_get}
use Rattle.std.proofs.lemmas.List.{take_all}

-- a place within the list has a member, and one member
pub slice_get_some : {X : Type 0} (xs : List X) (k : ℕ) → k < length xs → (x : X) × (slice_get xs k ≡ Some x)
slice_get_some [] k within = absurd (omega arith)
slice_get_some (x ∷ xs) zero within = (x, refl)
slice_get_some (x ∷ xs) (suc k) within = slice_get_some xs k (omega arith)

pub slice_get_one : {X : Type 0} (xs : List X) (k : ℕ) (x y : X) → slice_get xs k ≡ Some x → slice_get xs k ≡ Some y → x ≡ y
slice_get_one xs k x y at too i = same_Some x y (sym at ∙ too) i

pub contains_at : {X : Type 0} (xs : List X) (k : ℕ) (x : X) → slice_get xs k ≡ Some x → Contains xs x
contains_at xs k x at = (k, slice_get_within xs k x at, get_or_from_slice_get xs k x x at)

-- the list around a place, and its front with that member
pub split_at : {X : Type 0} (xs : List X) (k : ℕ) (x : X) → slice_get xs k ≡ Some x → xs ≡ take k xs ++ x ∷ drop (suc k) xs
split_at [] k x at = absurd (none-some x at)
split_at (y ∷ ys) zero x at = ap (λ z. z ∷ ys) (same_Some y x at)
split_at (y ∷ ys) (suc k) x at = ap (λ zs. y ∷ zs) (split_at ys k x at)

pub take_next : {X : Type 0} (xs : List X) (k : ℕ) (x : X) → slice_get xs k ≡ Some x → take (suc k) xs ≡ take k xs ++ x ∷ []
take_next [] k x at = absurd (none-some x at)
take_next (y ∷ ys) zero x at = ap (λ z. z ∷ []) (same_Some y x at)
take_next (y ∷ ys) (suc k) x at = ap (λ zs. y ∷ zs) (take_next ys k x at)

pub last_split : {X : Type 0} (xs : List X) (x : X) → slice_get xs (length xs - 1) ≡ Some x → xs ≡ take (length xs - 1) xs ++ x ∷ []
last_split xs x at =
    let within = slice_get_within xs (length xs - 1) x at in
    let n : suc (length xs - 1) ≡ length xs = omega arith in
    sym (take_all (length xs) xs (omega arith)) ∙ (ap (λ k. take k xs) (sym n) ∙ take_next xs (length xs - 1) x at)

-- in a list that goes on
pub slice_get-front : {X : Type 0} (xs ys : List X) (k : ℕ) → k < length xs → slice_get (xs ++ ys) k ≡ slice_get xs k
slice_get-front [] ys k within = absurd (omega arith)
slice_get-front (x ∷ xs) ys zero within = refl
slice_get-front (x ∷ xs) ys (suc k) within = slice_get-front xs ys k (omega arith)

pub slice_get-behind : {X : Type 0} (xs : List X) (y : X) (ys : List X) → slice_get (xs ++ y ∷ ys) (length xs) ≡ Some y
slice_get-behind [] y ys = refl
slice_get-behind (x ∷ xs) y ys = slice_get-behind xs y ys

pub slice_get_grown : {X : Type 0} (xs ys : List X) (k : ℕ) (x : X) → slice_get xs k ≡ Some x → slice_get (xs ++ ys) k ≡ Some x
slice_get_grown xs ys k x at = slice_get-front xs ys k (slice_get_within xs k x at) ∙ at

pub slice_get_push : {X : Type 0} (xs : List X) (y : X) (k : ℕ) (x : X) → slice_get (xs ++ y ∷ []) k ≡ Some x →
    ((k < length xs) × (slice_get xs k ≡ Some x)) ⊎ ((k ≡ length xs) × (y ≡ x))
slice_get_push [] y zero x at = inr (refl, same_Some y x at)
slice_get_push [] y (suc k) x at = absurd (none-some x at)
slice_get_push (z ∷ xs) y zero x at = inl (omega arith, at)
slice_get_push (z ∷ xs) y (suc k) x at =
    elim (slice_get_push xs y k x at) [
      | inl p ↦ inl (omega (arith, p.0), p.1)
      | inr p ↦ inr (ap suc p.0, p.1)
    ]

-- in a front, and behind one
pub slice_get-take : {X : Type 0} (n : ℕ) (xs : List X) (k : ℕ) (x : X) → slice_get (take n xs) k ≡ Some x →
    (k < n) × (slice_get xs k ≡ Some x)
slice_get-take zero xs k x at = absurd (none-some x at)
slice_get-take (suc n) [] k x at = absurd (none-some x at)
slice_get-take (suc n) (y ∷ ys) zero x at = (omega arith, at)
slice_get-take (suc n) (y ∷ ys) (suc k) x at = let r = slice_get-take n ys k x at in (omega (arith, r.0), r.1)

pub slice_get_taken : {X : Type 0} (n : ℕ) (xs : List X) (k : ℕ) (x : X) → k < n → slice_get xs k ≡ Some x →
    slice_get (take n xs) k ≡ Some x
slice_get_taken zero xs k x below at = absurd (omega arith)
slice_get_taken (suc n) [] k x below at = at
slice_get_taken (suc n) (y ∷ ys) zero x below at = at
slice_get_taken (suc n) (y ∷ ys) (suc k) x below at = slice_get_taken n ys k x (omega arith) at

pub slice_get-drop : {X : Type 0} (n : ℕ) (xs : List X) (k : ℕ) → slice_get (drop n xs) k ≡ slice_get xs (n + k)
slice_get-drop zero xs k = ap (slice_get xs) (omega arith)
slice_get-drop (suc n) [] k = refl
slice_get-drop (suc n) (x ∷ xs) k = slice_get-drop n xs k ∙ ap (slice_get (x ∷ xs)) (let e : suc (n + k) ≡ suc n + k = omega arith in e)

-- after a member is set
pub slice_get_set : {X : Type 0} (xs : List X) (i j : ℕ) (y : X) → (j ≡ i → ⊥) → slice_get (set xs i y) j ≡ slice_get xs j
slice_get_set [] i j y other = refl
slice_get_set (x ∷ xs) zero zero y other = absurd (other refl)
slice_get_set (x ∷ xs) zero (suc j) y other = refl
slice_get_set (x ∷ xs) (suc i) zero y other = refl
slice_get_set (x ∷ xs) (suc i) (suc j) y other = slice_get_set xs i j y (λ e. other (ap suc e))

pub slice_get_set_same : {X : Type 0} (xs : List X) (i : ℕ) (y : X) → i < length xs → slice_get (set xs i y) i ≡ Some y
slice_get_set_same [] i y within = absurd (omega arith)
slice_get_set_same (x ∷ xs) zero y within = refl
slice_get_set_same (x ∷ xs) (suc i) y within = slice_get_set_same xs i y (omega arith)

-- behind a front, by a place that counts it too
pub slice_get-append : {X : Type 0} (xs ys : List X) (k p : ℕ) → p ≡ length xs + k → slice_get (xs ++ ys) p ≡ slice_get ys k
slice_get-append [] ys k p e = let same : p ≡ k = omega (arith, e) in ap (slice_get ys) same
slice_get-append (x ∷ xs) ys k zero e = absurd (omega (arith, e))
slice_get-append (x ∷ xs) ys k (suc p) e = slice_get-append xs ys k p (omega (arith, e))

-- among images, and in a list of one member many times
pub slice_get_mapped : {X Y : Type 0} (f : X → Y) (xs : List X) (i : ℕ) (y : Y) → slice_get (map f xs) i ≡ Some y →
    (x : X) × (slice_get xs i ≡ Some x) × (f x ≡ y)
slice_get_mapped f [] i y at = absurd (none-some y at)
slice_get_mapped f (x ∷ xs) zero y at = (x, refl, same_Some (f x) y at)
slice_get_mapped f (x ∷ xs) (suc i) y at = slice_get_mapped f xs i y at

pub slice_get-replicate : {X : Type 0} (count n : ℕ) (x : X) → n < count → slice_get (replicate count x) n ≡ Some x
slice_get-replicate zero n x within = absurd (omega arith)
slice_get-replicate (suc count) zero x within = refl
slice_get-replicate (suc count) (suc n) x within = slice_get-replicate count n x (omega arith)
