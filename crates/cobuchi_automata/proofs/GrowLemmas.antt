-- Lists that grow by a member that they lack: what stands at a place stays there, and no member comes twice.
use Rattle.std.proofs.Common.{◌≡◌, ◌∙◌, ℕ, ◌+◌, ◌<◌, ◌≤◌, ◌⊎◌, inl, inr, List, [], ◌∷◌, ◌++◌, length, Some, slice_get, Contains, refl, sym, ap, subst, arith}
use Rattle.std.proofs.Common.{length-append}
use Rattle.std.specs.List.{AllByRecursion}
use Rattle.std.proofs.lemmas.Option.{none-some, slice_get-get_or}
use Rattle.base_library.proofs.Each.{each_joined}
use Rattle.base_library.proofs.Places.{contains_at, slice_get_grown, slice_get_push}
use Rattle.base_library.specs.Once.{StandOnce}
use Rattle.cobuchi_automata.specs.internal.Exploring.{Grows}

module _ {A : Type 0} where
  pub stays : (old new : List A) (x : A) → Grows old x new → (i : ℕ) (y : A) → slice_get old i ≡ Some y → slice_get new i ≡ Some y
  stays old new x grows i y at = by grows.grown
    where
      by : (new ≡ old) ⊎ (((k : ℕ) → slice_get old k ≡ Some x → ⊥) × (new ≡ old ++ x ∷ [])) → slice_get new i ≡ Some y
      by (inl same) = ap (λ l. slice_get l i) same ∙ at
      by (inr more) = ap (λ l. slice_get l i) more.1 ∙ slice_get_grown old (x ∷ []) i y at

  pub has_stayed : (old new : List A) (x : A) → Grows old x new → (y : A) → Contains old y → Contains new y
  has_stayed old new x grows y (k, within, is) =
      contains_at new k y (stays old new x grows k y (slice_get-get_or old k y within ∙ ap Some is))

  pub longer : (old new : List A) (x : A) → Grows old x new → length old ≤ length new
  longer old new x grows = by grows.grown
    where
      by : (new ≡ old) ⊎ (((k : ℕ) → slice_get old k ≡ Some x → ⊥) × (new ≡ old ++ x ∷ [])) → length old ≤ length new
      by (inl same) = let e : length new ≡ length old = ap length same in omega (arith, e)
      by (inr more) = let e : length new ≡ length old + 1 = ap length more.1 ∙ length-append old (x ∷ []) in omega (arith, e)

  pub each_grows : (P : A → Type 0) (old new : List A) (x : A) → Grows old x new → AllByRecursion P old → P x → AllByRecursion P new
  each_grows P old new x grows each here = by grows.grown
    where
      by : (new ≡ old) ⊎ (((k : ℕ) → slice_get old k ≡ Some x → ⊥) × (new ≡ old ++ x ∷ [])) → AllByRecursion P new
      by (inl same) = subst (AllByRecursion P) (sym same) each
      by (inr more) = subst (AllByRecursion P) (sym more.1) (each_joined P old (x ∷ []) each (here, tt))

  pub once_grows : (old new : List A) (x : A) → Grows old x new → StandOnce old → StandOnce new
  once_grows old new x grows once = by grows.grown
    where
      pushed : ((k : ℕ) → slice_get old k ≡ Some x → ⊥) → StandOnce (old ++ x ∷ [])
      pushed fresh i j y at_i at_j = on (slice_get_push old x i y at_i) (slice_get_push old x j y at_j)
        where
          on : ((i < length old) × (slice_get old i ≡ Some y)) ⊎ ((i ≡ length old) × (x ≡ y))
              → ((j < length old) × (slice_get old j ≡ Some y)) ⊎ ((j ≡ length old) × (x ≡ y)) → i ≡ j
          on (inl p) (inl q) = once i j y p.1 q.1
          on (inl p) (inr q) = absurd (fresh i (p.1 ∙ ap Some (sym q.1)))
          on (inr p) (inl q) = absurd (fresh j (q.1 ∙ ap Some (sym p.1)))
          on (inr p) (inr q) = p.0 ∙ sym q.0

      by : (new ≡ old) ⊎ (((k : ℕ) → slice_get old k ≡ Some x → ⊥) × (new ≡ old ++ x ∷ [])) → StandOnce new
      by (inl same) = subst StandOnce (sym same) once
      by (inr more) = subst StandOnce (sym more.1) (pushed more.0)

  pub none_once : StandOnce {A = A} []
  none_once i j x at_i at_j = absurd (none-some x at_i)

  pub first_grows : (x : A) → Grows [] x (x ∷ [])
  first_grows x = record { grown = inr (λ i at. none-some x at, refl); there = (0, refl) }
