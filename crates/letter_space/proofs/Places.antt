-- The first place at which a test holds.
use Rattle.std.proofs.Common.{
  ◌≡◌,
  ◌⊎◌,
  ℕ,
  ◌+◌,
  ◌<◌,
  Bool,
  not,
  cond,
  List,
  [],
  ◌∷◌,
  length,
  map,
  zero,
  suc,
  true,
  false,
  slice_get,
  inl,
  inr,
  Some,
  None,
  refl,
  ap,
  ◌∙◌,
  nat_lt,
}
use Rattle.std.specs.List.{position, position_or_len, find}
use Rattle.std.proofs.lemmas.List.{length-map}
use Rattle.std.proofs.lemmas.List.Quantifiers.{position-Some}
use Rattle.std.proofs.lemmas.Option.{none-some, same_Some, slice_get_past}
use Rattle.std.proofs.lemmas.List.Folds.{find_at}
use Rattle.std.proofs.lemmas.Bool.{ltb-true, ltb-false}
use Rattle.base_library.proofs.Finds.{found_passes}
use Rattle.base_library.proofs.Places.{slice_get_some}

-- among images, it is that of the images' test
pub position_or_len-map : {X Y : Type 0} (view : X → Y) (test : Y → Bool) (xs : List X) →
    position_or_len test (map view xs) ≡ position_or_len (λ x. test (view x)) xs
position_or_len-map view test [] = refl
position_or_len-map view test (x ∷ xs) = ap (λ n. cond (not (test (view x))) (1 + n) 0) (position_or_len-map view test xs)

pub position-map : {X Y : Type 0} (view : X → Y) (test : Y → Bool) (xs : List X) →
    position test (map view xs) ≡ position (λ x. test (view x)) xs
position-map view test xs =
    (λ i. cond (nat_lt (position_or_len-map view test xs i) (length-map xs view i)) (Some (position_or_len-map view test xs i)) None)

pub slice_get_image : {X Y : Type 0} (view : X → Y) (xs : List X) (i : ℕ) (x : X) → slice_get xs i ≡ Some x →
    slice_get (map view xs) i ≡ Some (view x)
slice_get_image view [] i x at = absurd (none-some x at)
slice_get_image view (y ∷ xs) zero x at = ap (λ z. Some (view z)) (same_Some y x at)
slice_get_image view (y ∷ xs) (suc i) x at = slice_get_image view xs i x at

pub place_within : {X : Type 0} (test : X → Bool) (xs : List X) (i : ℕ) → position test xs ≡ Some i → i < length xs
place_within test [] i is = absurd (none-some i is)
place_within test (x ∷ xs) i is = (position-Some test (x ∷ xs) i x is).0

-- where the first one stands, or that there is none
pub position_tells : {X : Type 0} (test : X → Bool) (xs : List X) →
    ((place : ℕ) × (x : X) × (position test xs ≡ Some place) × (slice_get xs place ≡ Some x) × (test x ≡ true))
    ⊎ ((position test xs ≡ None) × (find test xs ≡ None))
position_tells test xs = by (nat_lt (position_or_len test xs) (length xs)) refl
  where
    by : (b : Bool) → nat_lt (position_or_len test xs) (length xs) ≡ b →
        ((place : ℕ) × (x : _) × (position test xs ≡ Some place) × (slice_get xs place ≡ Some x) × (test x ≡ true))
        ⊎ ((position test xs ≡ None) × (find test xs ≡ None))
    by true within =
        let place = position_or_len test xs in
        let there = slice_get_some xs place (ltb-true place (length xs) within) in
        inl (
          place,
          there.0,
          ap (λ b. cond b (Some place) None) within,
          there.1,
          found_passes test xs there.0 (find_at test xs ∙ there.1),
        )
    by false past =
        let place = position_or_len test xs in
        inr (ap (λ b. cond b (Some place) None) past, find_at test xs ∙ slice_get_past xs place (ltb-false place (length xs) past))
