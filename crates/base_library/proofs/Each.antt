-- What holds of each member of a list, by recursion.
use Rattle.std.proofs.Common.{
  ◌≡◌,
  ℕ,
  zero,
  suc,
  Bool,
  true,
  false,
  cond,
  List,
  [],
  ◌∷◌,
  ◌++◌,
  Some,
  map,
  filter,
  flat_map,
  slice_get,
  Contains,
  refl,
  subst,
  arith,
}
use Rattle.std.specs.List.{AllByRecursion}

module _ {X : Type 0} (P : X → Type 0) where
  -- what holds at each place holds of each member, and the other way round
  pub each_from_places : (xs : List X) → ((i : ℕ) (x : X) → slice_get xs i ≡ Some x → P x) → AllByRecursion P xs
  each_from_places [] at = tt
  each_from_places (x ∷ xs) at = (at zero x refl, each_from_places xs (λ i y is. at (suc i) y is))

  pub each_at : (xs : List X) (i : ℕ) (x : X) → AllByRecursion P xs → slice_get xs i ≡ Some x → P x
  each_at [] i x each is = absurd cc
  each_at (y ∷ ys) zero x each is =
      let same : y ≡ x = cc in
      subst P same each.0
  each_at (y ∷ ys) (suc i) x each is = each_at ys i x each.1 is

  pub each_contained : (xs : List X) (x : X) → AllByRecursion P xs → Contains xs x → P x
  each_contained [] x each stands = absurd (omega (arith, stands.1))
  each_contained (y ∷ ys) x each (zero, within, is) = subst P is each.0
  each_contained (y ∷ ys) x each (suc k, within, is) = each_contained ys x each.1 (k, omega arith, is)

  -- of lists that are joined
  pub each_joined : (xs ys : List X) → AllByRecursion P xs → AllByRecursion P ys → AllByRecursion P (xs ++ ys)
  each_joined [] ys first second = second
  each_joined (x ∷ xs) ys first second = (first.0, each_joined xs ys first.1 second)

  pub each_left : (xs ys : List X) → AllByRecursion P (xs ++ ys) → AllByRecursion P xs
  each_left [] ys each = tt
  each_left (x ∷ xs) ys each = (each.0, each_left xs ys each.1)

  pub each_right : (xs ys : List X) → AllByRecursion P (xs ++ ys) → AllByRecursion P ys
  each_right [] ys each = each
  each_right (x ∷ xs) ys each = each_right xs ys each.1

  pub each_between : (xs : List X) (y : X) (ys : List X) → AllByRecursion P (xs ++ y ∷ ys) → P y
  each_between [] y ys each = each.0
  each_between (x ∷ xs) y ys each = each_between xs y ys each.1

  -- of those that pass
  pub each_filtered : (p : X → Bool) (xs : List X) → AllByRecursion P xs → AllByRecursion P (filter p xs)
  each_filtered p [] each = tt
  each_filtered p (x ∷ xs) each = by (p x) (each_filtered p xs each.1)
    where
      by : (passes : Bool) → AllByRecursion P (filter p xs) → AllByRecursion P (cond passes (x ∷ filter p xs) (filter p xs))
      by true rest = (each.0, rest)
      by false rest = rest

  -- of the images of a function
  pub each_map : {Y : Type 0} (f : Y → X) (ys : List Y) → AllByRecursion (λ y. P (f y)) ys → AllByRecursion P (map f ys)
  each_map f [] each = tt
  each_map f (y ∷ ys) each = (each.0, each_map f ys each.1)

  pub each_flat_map : {Y : Type 0} (f : Y → List X) (ys : List Y) → AllByRecursion (λ y. AllByRecursion P (f y)) ys →
      AllByRecursion P (flat_map f ys)
  each_flat_map f [] each = tt
  each_flat_map f (y ∷ ys) each = each_joined (f y) (flat_map f ys) each.0 (each_flat_map f ys each.1)

-- what follows from it holds too
pub each_weaker : {X : Type 0} (P Q : X → Type 0) → ((x : X) → P x → Q x) → (xs : List X) → AllByRecursion P xs → AllByRecursion Q xs
each_weaker P Q f [] each = tt
each_weaker P Q f (x ∷ xs) each = (f x each.0, each_weaker P Q f xs each.1)

pub each_both : {X : Type 0} (P Q R : X → Type 0) → ((x : X) → P x → Q x → R x) → (xs : List X) → AllByRecursion P xs →
    AllByRecursion Q xs → AllByRecursion R xs
each_both P Q R f [] first second = tt
each_both P Q R f (x ∷ xs) first second = (f x first.0 second.0, each_both P Q R f xs first.1 second.1)

pub each_unmapped : {X Y : Type 0} (P : Y → Type 0) (f : X → Y) (xs : List X) → AllByRecursion P (map f xs) →
    AllByRecursion (λ x. P (f x)) xs
each_unmapped P f [] each = tt
each_unmapped P f (x ∷ xs) each = (each.0, each_unmapped P f xs each.1)
