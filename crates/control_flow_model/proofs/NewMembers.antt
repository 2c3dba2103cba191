-- A list that grows by what did not stand in it: what it keeps, and what stands in it.
use Rattle.std.proofs.Common.{◌≡◌, ◌∙◌, ℕ, zero, suc, ◌+◌, ◌≤◌, Bool, true, false, cond, List, [], ◌∷◌, ◌++◌, length, Some, slice_get}
use Rattle.std.proofs.Common.{sym, ap, refl, subst, arith, inl, inr, length-append}
use Rattle.std.proofs.lemmas.Bool.{false≢true}
use Rattle.std.proofs.lemmas.Option.{none-some, same_Some}
use Rattle.base_library.specs.Kept.{is_kept, with_new}
use Rattle.base_library.proofs.Passes.{list_any_contained, list_any_place}
use Rattle.base_library.proofs.Places.{contains_at, slice_get-behind, slice_get_grown, slice_get_push}

module _ {X : Type 0} (same : X → X → Bool) where
  -- one member more, unless it is there
  abbrev pub with_one : List X → X → List X
  with_one kept x = cond (is_kept same kept x) kept (kept ++ x ∷ [])

  pub one_more : (P : List X → Type 0) (kept : List X) (x : X) → (is_kept same kept x ≡ true → P kept) →
      (is_kept same kept x ≡ false → P (kept ++ x ∷ [])) → P (with_one kept x)
  one_more P kept x old new = by (is_kept same kept x) refl
    where
      by : (b : Bool) → is_kept same kept x ≡ b → P (cond b kept (kept ++ x ∷ []))
      by true present = old present
      by false absent = new absent

  -- what each new member keeps is kept
  pub grown : (P : List X → Type 0) → ((kept : List X) (x : X) → P kept → is_kept same kept x ≡ false → P (kept ++ x ∷ [])) →
      (kept xs : List X) → P kept → P (with_new same kept xs)
  grown P push kept [] holds = holds
  grown P push kept (x ∷ xs) holds = grown P push (with_one kept x) xs (one_more P kept x (λ _. holds) (push kept x holds))

  pub stays : (kept xs : List X) (i : ℕ) (x : X) → slice_get kept i ≡ Some x → slice_get (with_new same kept xs) i ≡ Some x
  stays kept xs i x at = grown (λ ys. slice_get ys i ≡ Some x) (λ ys y there _. slice_get_grown ys (y ∷ []) i x there) kept xs at

  pub few_new : (kept xs : List X) → length (with_new same kept xs) ≤ length kept + length xs
  few_new kept [] = omega arith
  few_new kept (x ∷ xs) =
      let one : length (with_one kept x) ≤ length kept + 1 =
      one_more (λ ys. length ys ≤ length kept + 1) kept x (λ _. omega arith) (λ _. omega (arith, length-append kept (x ∷ []))) in
      omega (arith, one, few_new (with_one kept x) xs)

  -- what holds of the old members and of those that are added holds of each
  pub each_new : (Q : X → Type 0) (kept xs : List X) → ((i : ℕ) (x : X) → slice_get kept i ≡ Some x → Q x) →
      ((j : ℕ) (x : X) → slice_get xs j ≡ Some x → Q x) → (i : ℕ) (x : X) → slice_get (with_new same kept xs) i ≡ Some x → Q x
  each_new Q kept [] old new i x at = old i x at
  each_new Q kept (y ∷ xs) old new i x at =
      each_new Q (with_one kept y) xs (one_more (λ ks. (k : ℕ) (z : X) → slice_get ks k ≡ Some z → Q z) kept y (λ _. old) (λ _. pushed))
      (λ j z there. new (suc j) z there) i x at
    where
      pushed : (k : ℕ) (z : X) → slice_get (kept ++ y ∷ []) k ≡ Some z → Q z
      pushed k z there = elim (slice_get_push kept y k z there) [
        | inl before ↦ old k z before.1
        | inr last ↦ subst Q last.1 (new 0 y refl)
      ]

  module _ (is : (a b : X) → same a b ≡ true → a ≡ b) (itself : (a : X) → same a a ≡ true) where
    pub is_kept_at : (kept : List X) (i : ℕ) (x : X) → slice_get kept i ≡ Some x → is_kept same kept x ≡ true
    is_kept_at kept i x at = list_any_contained (λ k. same k x) kept x (contains_at kept i x at) (itself x)

    pub not_kept_at : (kept : List X) (i : ℕ) (x : X) → is_kept same kept x ≡ false → slice_get kept i ≡ Some x → ⊥
    not_kept_at kept i x absent at = false≢true (sym absent ∙ is_kept_at kept i x at)

    pub kept_place : (kept : List X) (x : X) → is_kept same kept x ≡ true → (i : ℕ) × (slice_get kept i ≡ Some x)
    kept_place kept x present =
        let found = list_any_place (λ k. same k x) kept present in
        (found.0, found.2 ∙ ap Some (is found.1 x found.3))

    -- each member of what is added stands in the whole
    pub stands : (kept xs : List X) (j : ℕ) (x : X) → slice_get xs j ≡ Some x →
        (i : ℕ) × (slice_get (with_new same kept xs) i ≡ Some x)
    stands kept [] j x at = absurd (none-some x at)
    stands kept (y ∷ xs) zero x at =
        let here : (i : ℕ) × (slice_get (with_one kept y) i ≡ Some y) =
        one_more (λ ys. (i : ℕ) × (slice_get ys i ≡ Some y)) kept y (kept_place kept y)
        (λ _. (length kept, slice_get-behind kept y [])) in
        (here.0, stays (with_one kept y) xs here.0 x (here.1 ∙ ap Some (same_Some y x at)))
    stands kept (y ∷ xs) (suc j) x at = stands (with_one kept y) xs j x at

    -- what stands there already adds nothing
    pub nothing_new : (kept xs : List X) →
        ((j : ℕ) (x : X) → slice_get xs j ≡ Some x → (i : ℕ) × (slice_get kept i ≡ Some x)) → with_new same kept xs ≡ kept
    nothing_new kept [] all = refl
    nothing_new kept (x ∷ xs) all =
        let place = all zero x refl in
        ap (λ b. with_new same (cond b kept (kept ++ x ∷ [])) xs) (is_kept_at kept place.0 x place.1)
        ∙ nothing_new kept xs (λ j y at. all (suc j) y at)
