-- Lists that keep what did not stand in them: no member stands twice, and each member of the whole list is kept.
use Rattle.std.proofs.Common.{
  ◌≡◌,
  ◌∙◌,
  ℕ,
  zero,
  suc,
  ◌<◌,
  Bool,
  true,
  false,
  cond,
  ◌||◌,
  List,
  [],
  ◌∷◌,
  ◌++◌,
  length,
  Some,
  slice_get,
  flat_map,
  inl,
  inr,
  refl,
  sym,
  ap,
  subst,
  arith,
}
use Rattle.std.specs.List.{list_any}
use Rattle.std.proofs.lemmas.Bool.{or_cases, or_left, or_right, false≢true}
use Rattle.std.proofs.lemmas.List.Folds.{list_any-append}
use Rattle.std.proofs.lemmas.Option.{none-some, same_Some}
use Rattle.std.proofs.Math.Bool.{or-false}
use Rattle.base_library.specs.Kept.{is_kept, with_new}
use Rattle.base_library.proofs.Places.{slice_get_push}
use Rattle.base_library.proofs.Kept.{with_new-from_none}
use Rattle.tsl_terms.specs.Distinct.{without_repeats}
use Rattle.base_library.specs.Once.{StandOnce}

-- what some member passes
pub any_at : {X : Type 0} (test : X → Bool) (xs : List X) (i : ℕ) (x : X) → slice_get xs i ≡ Some x → test x ≡ true →
    list_any test xs ≡ true
any_at test [] i x at passes = absurd (none-some x at)
any_at test (y ∷ xs) zero x at passes = or_left (test y) (list_any test xs) (ap test (same_Some y x at) ∙ passes)
any_at test (y ∷ xs) (suc i) x at passes = or_right (test y) (list_any test xs) (any_at test xs i x at passes)

pub any_flat_map_at : {X Y : Type 0} (test : Y → Bool) (f : X → List Y) (xs : List X) (i : ℕ) (x : X) → slice_get xs i ≡ Some x →
    list_any test (f x) ≡ true → list_any test (flat_map f xs) ≡ true
any_flat_map_at test f [] i x at some = absurd (none-some x at)
any_flat_map_at test f (y ∷ xs) zero x at some =
    list_any-append test (f y) (flat_map f xs)
    ∙ or_left (list_any test (f y)) (list_any test (flat_map f xs)) (ap (λ z. list_any test (f z)) (same_Some y x at) ∙ some)
any_flat_map_at test f (y ∷ xs) (suc i) x at some =
    list_any-append test (f y) (flat_map f xs)
    ∙ or_right (list_any test (f y)) (list_any test (flat_map f xs)) (any_flat_map_at test f xs i x at some)

module _ {X : Type 0} (same : X → X → Bool) (is : (a b : X) → same a b ≡ true → a ≡ b) (itself : (a : X) → same a a ≡ true) where
  once_push : (kept : List X) (x : X) → StandOnce kept → is_kept same kept x ≡ false → StandOnce (kept ++ x ∷ [])
  once_push kept x once absent i j y at too =
      elim (slice_get_push kept x i y at) [
        | inl first ↦
            elim (slice_get_push kept x j y too) [
              | inl second ↦ once i j y first.1 second.1
              | inr second ↦ absurd (stands i first.1 second.1)
            ]
        | inr first ↦
            elim (slice_get_push kept x j y too) [
              | inl second ↦ absurd (stands j second.1 first.1)
              | inr second ↦ first.0 ∙ sym second.0
            ]
      ]
    where
      stands : (k : ℕ) → slice_get kept k ≡ Some y → x ≡ y → ⊥
      stands k there equal =
          false≢true (sym absent ∙ any_at (λ z. same z x) kept k y there (ap (same y) equal ∙ itself y))

  once_with_new : (kept xs : List X) → StandOnce kept → StandOnce (with_new same kept xs)
  once_with_new kept [] once = once
  once_with_new kept (x ∷ xs) once = by (λ more. once_with_new more xs) (is_kept same kept x) refl
    where
      by : ((more : List X) → StandOnce more → StandOnce (with_new same more xs)) → (b : Bool) → is_kept same kept x ≡ b →
          StandOnce (with_new same (cond b kept (kept ++ x ∷ [])) xs)
      by rest true present = rest kept once
      by rest false absent = rest (kept ++ x ∷ []) (once_push kept x once absent)

  new_has : (kept xs : List X) (y : X) → (is_kept same kept y || is_kept same xs y) ≡ true → is_kept same (with_new same kept xs) y ≡ true
  new_has kept [] y stands = sym (or-false (is_kept same kept y)) ∙ stands
  new_has kept (x ∷ xs) y stands = by (λ more. new_has more xs y) (is_kept same kept x) refl
    where
      old : is_kept same kept x ≡ true → (is_kept same kept y || is_kept same xs y) ≡ true
      old present =
          elim (or_cases (is_kept same kept y) (same x y || is_kept same xs y) stands) [
            | inl there ↦ or_left (is_kept same kept y) (is_kept same xs y) there
            | inr later ↦
                elim (or_cases (same x y) (is_kept same xs y) later) [
                  | inl equal ↦ or_left (is_kept same kept y) (is_kept same xs y) (ap (is_kept same kept) (sym (is x y equal)) ∙ present)
                  | inr rest ↦ or_right (is_kept same kept y) (is_kept same xs y) rest
                ]
          ]

      new : (is_kept same (kept ++ x ∷ []) y || is_kept same xs y) ≡ true
      new =
          ap (λ b. b || is_kept same xs y) (list_any-append (λ k. same k y) kept (x ∷ []))
          ∙ moved (is_kept same kept y) (same x y) (is_kept same xs y) ∙ stands
        where
          moved : (a b c : Bool) → ((a || (b || false)) || c) ≡ (a || (b || c))
          moved true b c = refl
          moved false true c = refl
          moved false false c = refl

      by : ((more : List X) → (is_kept same more y || is_kept same xs y) ≡ true → is_kept same (with_new same more xs) y ≡ true) →
          (b : Bool) → is_kept same kept x ≡ b → is_kept same (with_new same (cond b kept (kept ++ x ∷ [])) xs) y ≡ true
      by rest true present = rest kept (old present)
      by rest false absent = rest (kept ++ x ∷ []) new

  -- each member where it stood first: none stands twice, and each one stands there

  kept_is : (xs : List X) → with_new same [] xs ≡ without_repeats same xs
  kept_is xs = with_new-from_none same is (without_repeats same) refl (λ _ _. refl) xs

  pub once_without_repeats : (xs : List X) → StandOnce (without_repeats same xs)
  once_without_repeats xs = subst StandOnce (kept_is xs) (once_with_new [] xs (λ i j y at _. absurd (none-some y at)))

  pub has_without_repeats : (xs : List X) (y : X) → is_kept same xs y ≡ true → is_kept same (without_repeats same xs) y ≡ true
  has_without_repeats xs y stands = ap (λ ys. is_kept same ys y) (sym (kept_is xs)) ∙ new_has [] xs y stands

pub some_without_repeats : {X : Type 0} (same : X → X → Bool) (xs : List X) → 0 < length xs → 0 < length (without_repeats same xs)
some_without_repeats same [] some = absurd (omega arith)
some_without_repeats same (x ∷ xs) some = omega arith
