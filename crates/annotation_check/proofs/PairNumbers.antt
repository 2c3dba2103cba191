-- The number of a pair in a list, before and after a number is set.
use Rattle.std.proofs.Common.{
  ◌≡◌,
  ◌∙◌,
  ℕ,
  ◌+◌,
  ◌*◌,
  ◌<◌,
  ◌≤◌,
  Bool,
  true,
  false,
  cond,
  ltb,
  List,
  length,
  set,
  get_or,
  Option,
  None,
  Some,
  option_and_then,
  slice_get,
  refl,
  sym,
  ap,
  arith,
  inl,
  inr,
  ◌⊎◌,
}
use Rattle.std.proofs.lemmas.Bool.{lt-ltb, ltb-true, ltb-false, cases_eq}
use Rattle.std.proofs.lemmas.Nat.{same_from_place}
use Rattle.std.proofs.lemmas.Option.{slice_get-get_or}
use Rattle.base_library.proofs.Places.{slice_get_set, slice_get_set_same}
use Rattle.annotation_check.specs.Annotations.{IsAtLeast, number_of_pair}
use Rattle.annotation_check.specs.internal.Higher.{is_higher}

-- what is at least so large is there, and the other way round
pub number_there : (n : ℕ) (o : Option ℕ) → IsAtLeast n o → (m : ℕ) × (o ≡ Some m) × (n ≤ m)
number_there n None h = absurd h
number_there n (Some m) h = (m, refl, h)

pub at_least : (n m : ℕ) (o : Option ℕ) → o ≡ Some m → n ≤ m → IsAtLeast n o
at_least n m None is h = absurd cc
at_least n m (Some k) is h = let e : k ≡ m = cc in omega (arith, h, e)

pub more_than_at_least : (n m : ℕ) (o : Option ℕ) → n ≤ m → IsAtLeast m o → IsAtLeast n o
more_than_at_least n m None h at = at
more_than_at_least n m (Some k) h at = omega (arith, h, at)

-- a number that is not higher than another
pub not_higher : (o : Option ℕ) (n : ℕ) → is_higher o n ≡ false → IsAtLeast n o
not_higher None n e = absurd cc
not_higher (Some m) n e = ltb-false m n e

pub higher_than : (o : Option ℕ) (n m : ℕ) → is_higher o n ≡ true → o ≡ Some m → m < n
higher_than None n m e is = absurd cc
higher_than (Some k) n m e is = let same : k ≡ m = cc in let below = ltb-true k n e in omega (arith, same, below)

module _ (states : ℕ) (numbers : List (Option ℕ)) (s q : ℕ) (column : q < states) (within : s * states + q < length numbers) where
  -- the number of a pair is what stands at its place
  pub number_at_place : number_of_pair states numbers s q ≡ get_or numbers (s * states + q) None
  number_at_place =
      ap (λ b. option_and_then (λ n. n) (cond b (slice_get numbers (s * states + q)) None)) (lt-ltb q states column)
      ∙ ap (option_and_then (λ n. n)) (slice_get-get_or numbers (s * states + q) None within)

  pub set_there : (v : Option ℕ) → number_of_pair states (set numbers (s * states + q) v) s q ≡ v
  set_there v =
      ap (λ b. option_and_then (λ n. n) (cond b (slice_get (set numbers (s * states + q) v) (s * states + q)) None))
      (lt-ltb q states column)
      ∙ ap (option_and_then (λ n. n)) (slice_get_set_same numbers (s * states + q) v within)

  -- a number that is set is that of its pair, and no other changes
  pub number_set : (v : Option ℕ) (t r : ℕ) →
      ((t ≡ s) × (r ≡ q) × (number_of_pair states (set numbers (s * states + q) v) t r ≡ v))
      ⊎ (number_of_pair states (set numbers (s * states + q) v) t r ≡ number_of_pair states numbers t r)
  number_set v t r = by (ltb r states) refl
    where
      by : (b : Bool) → ltb r states ≡ b →
          ((t ≡ s) × (r ≡ q) × (number_of_pair states (set numbers (s * states + q) v) t r ≡ v))
          ⊎ (number_of_pair states (set numbers (s * states + q) v) t r ≡ number_of_pair states numbers t r)
      by false e =
          inr (ap (λ b. option_and_then (λ n. n) (cond b (slice_get (set numbers (s * states + q) v) (t * states + r)) None)) e
          ∙ sym (ap (λ b. option_and_then (λ n. n) (cond b (slice_get numbers (t * states + r)) None)) e))
      by true e =
          elim (cases_eq (t * states + r) (s * states + q)) [
            | inl same ↦
                let parts = same_from_place t r s q states (ltb-true r states e) column same in
                inl (parts.0, parts.1, (λ i. number_of_pair states (set numbers (s * states + q) v) (parts.0 i) (parts.1 i)) ∙ set_there v)
            | inr other ↦
                inr (ap (λ o. option_and_then (λ n. n) (cond (ltb r states) o None))
                (slice_get_set numbers (s * states + q) (t * states + r) v other))
          ]
