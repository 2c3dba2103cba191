-- Members of a list that stand once, each of which stands in another list, are not more than the members of that one.
use Rattle.std.proofs.Common.{◌≡◌, ◌∙◌, ℕ, suc, ◌<◌, ◌≤◌, true, false, eqb, List, [], ◌∷◌, length, Some, slice_get, refl, ap, arith, inl, inr}
use Rattle.std.specs.List.{list_any, AllByRecursion, IsDistinct}
use Rattle.std.proofs.lemmas.Bool.{eqb-true, false≢true, or_cases, ne_eqb}
use Rattle.std.proofs.lemmas.Map.Steps.{length-le_from_distinct_below}
use Rattle.std.proofs.lemmas.Option.{slice_get_within}
use Rattle.base_library.proofs.Places.{slice_get_one}
use Rattle.base_library.specs.Once.{StandOnce}

module _ {A : Type 0} (ys : List A) where
  -- a place at which a member stands
  abbrev pub Stands : A → Type 0
  Stands x = (i : ℕ) × (slice_get ys i ≡ Some x)

  abbrev places : (xs : List A) → AllByRecursion Stands xs → List ℕ
  places [] each = []
  places (x ∷ xs) each = each.0.0 ∷ places xs each.1

  length-places : (xs : List A) (each : AllByRecursion Stands xs) → length (places xs each) ≡ length xs
  length-places [] each = refl
  length-places (x ∷ xs) each = ap suc (length-places xs each.1)

  others : (x : A) (i : ℕ) → slice_get ys i ≡ Some x → (xs : List A) (each : AllByRecursion Stands xs)
      → ((k : ℕ) (y : A) → slice_get xs k ≡ Some y → x ≡ y → ⊥) → AllByRecursion (λ n. eqb i n ≡ false) (places xs each)
  others x i at [] each differ = tt
  others x i at (y ∷ xs) each differ = (
    ne_eqb i each.0.0 (λ same. differ 0 y refl (slice_get_one ys i x y at (ap (slice_get ys) same ∙ each.0.1))),
    others x i at xs each.1 (λ k z stands. differ (suc k) z stands),
  )

  distinct : (xs : List A) (each : AllByRecursion Stands xs) → StandOnce xs → IsDistinct eqb (places xs each)
  unfolding IsDistinct
  distinct [] each once = tt
  distinct (x ∷ xs) each once = (
    others x each.0.0 each.0.1 xs each.1
        (λ k y at same. let e : 0 ≡ suc k = once 0 (suc k) y (ap Some same) at in absurd (omega (arith, e))),
    distinct xs each.1 (λ i j y at_i at_j. let e : suc i ≡ suc j = once (suc i) (suc j) y at_i at_j in omega (arith, e)),
  )

  below : (xs : List A) (each : AllByRecursion Stands xs) (q : ℕ) → list_any (eqb q) (places xs each) ≡ true → q < length ys
  below [] each q is = absurd (false≢true is)
  below (x ∷ xs) each q is =
      elim (or_cases (eqb q each.0.0) (list_any (eqb q) (places xs each.1)) is) [
        | inl s ↦ omega (arith, eqb-true q each.0.0 s, slice_get_within ys each.0.0 x each.0.1)
        | inr s ↦ below xs each.1 q s
      ]

  pub not_more : (xs : List A) → StandOnce xs → AllByRecursion Stands xs → length xs ≤ length ys
  not_more xs once each = omega (
    arith,
    length-places xs each,
    length-le_from_distinct_below (places xs each) (length ys) (distinct xs each once) (below xs each),
  )
