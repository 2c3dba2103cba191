-- Lists whose members stand in a relation one by one.
use Rattle.std.proofs.Common.{◌≡◌, ℕ, zero, suc, Bool, ◌&&◌, List, [], ◌∷◌, map, refl, subst}
use Rattle.std.specs.Prelude.{Option, Some, None, slice_get}
use Rattle.std.specs.List.{list_all, AllByRecursion}
use Rattle.std.proofs.lemmas.Option.{same_Some}
use Rattle.base_library.specs.Options.{all_there}
use Rattle.base_library.proofs.Options.{some_mapped}

pub data Paired {X Y : Type 0} (R : X → Y → Type 0) : List X → List Y → Type 0 where
  none : Paired R [] []
  next : {x : X} {y : Y} {xs : List X} {ys : List Y} → R x y → Paired R xs ys → Paired R (x ∷ xs) (y ∷ ys)

-- the members of the second are made of those of the first
pub paired_there : {X Y : Type 0} (R : X → Y → Type 0) (f : X → Option Y) → ((x : X) (y : Y) → f x ≡ Some y → R x y) → (xs : List X)
    (ys : List Y) → all_there (map f xs) ≡ Some ys → Paired R xs ys
paired_there R f each [] ys is = subst (Paired R []) (same_Some [] ys is) none
paired_there {Y = Y} R f each (x ∷ xs) ys is = by (f x) refl is (paired_there R f each xs) where
  by : (o : Option Y) → f x ≡ o → all_there (o ∷ map f xs) ≡ Some ys →
      ((zs : List Y) → all_there (map f xs) ≡ Some zs → Paired R xs zs) → Paired R (x ∷ xs) ys
  by None at there behind = absurd (cc)
  by (Some y) at there behind =
      let rest = some_mapped (λ zs. y ∷ zs) (all_there (map f xs)) ys there in
      subst (Paired R (x ∷ xs)) rest.2 (next (each x y at) (behind rest.0 rest.1))

module _ {X Y : Type 0} {R : X → Y → Type 0} where
  -- with what holds of each member of the first
  pub paired_with : {P : X → Type 0} {xs : List X} {ys : List Y} → Paired R xs ys → AllByRecursion P xs →
      Paired (λ x y. R x y × P x) xs ys
  paired_with none each = none
  paired_with (next r rest) each = next (r, each.0) (paired_with rest each.1)

  -- what each pair gives of its second member
  pub paired_each : {xs : List X} {ys : List Y} (Q : Y → Type 0) → ((x : X) (y : Y) → R x y → Q y) → Paired R xs ys → AllByRecursion Q ys
  paired_each Q f none = tt
  paired_each Q f (next {x = x} {y = y} r rest) = (f x y r, paired_each Q f rest)

  pub paired_at : {xs : List X} {ys : List Y} → Paired R xs ys → (i : ℕ) (x : X) → slice_get xs i ≡ Some x →
      (y : Y) × (slice_get ys i ≡ Some y) × R x y
  paired_at none i x is = absurd (cc)
  paired_at (next {x = z} {y = y} r rest) zero x is = (y, refl, subst (λ x. R x y) (same_Some z x is) r)
  paired_at (next r rest) (suc i) x is = paired_at rest i x is

  -- what is made alike of the members of each pair, and tests that are alike
  pub map_alike : {Z : Type 0} (f : X → Z) (g : Y → Z) {xs : List X} {ys : List Y} → ((x : X) (y : Y) → R x y → f x ≡ g y) →
      Paired R xs ys → map f xs ≡ map g ys
  map_alike f g alike none = refl
  map_alike f g alike (next {x = x} {y = y} r rest) = λ i. alike x y r i ∷ map_alike f g alike rest i

  pub all_alike : (p : X → Bool) (q : Y → Bool) {xs : List X} {ys : List Y} → ((x : X) (y : Y) → R x y → p x ≡ q y) → Paired R xs ys →
      list_all p xs ≡ list_all q ys
  all_alike p q alike none = refl
  all_alike p q alike (next {x = x} {y = y} r rest) = λ i. alike x y r i && all_alike p q alike rest i
