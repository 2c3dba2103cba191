-- Bits that are set in a plane.
use Rattle.std.proofs.Common.{◌≡◌, ◌∙◌, ℕ, ◌*◌, ◌/◌, ◌%◌, ◌^◌, ◌<◌, ◌==◌, Bool, true, false, ◌||◌, List, [], ◌∷◌, ◌++◌, take, length, refl, sym, ap, subst, arith, inl, inr, ◌⊎◌, bit_or}
use Rattle.std.specs.Prelude.{◌↔◌}
use Rattle.std.specs.Prelude.{slice_set}
use Rattle.std.specs.Int.{bit_at}
use Rattle.std.proofs.Math.Bool.{or-false}
use Rattle.std.proofs.lemmas.Bool.{cases_eq, eq-eqb, ne_eqb, false≢true}
use Rattle.std.proofs.lemmas.List.{get_or-set_same, get_or-set_other}
use Rattle.std.proofs.lemmas.Nat.Bits.{bit_at-pow_same, bit_at-pow_other}
use Rattle.letter_space.proofs.Bounds.{word_bit}
use Rattle.lane_planes.specs.Planes.{word_at, has_bit}
use Rattle.lane_planes.proofs.BitLemmas.{or_word}
use Rattle.branch_finder.specs.internal.Planes.{words_of, IsPlaneOf}

pub set_is : (plane : List ℕ) (bit : ℕ) → bit < 64 * length plane → (i : ℕ) →
    has_bit (slice_set plane (bit / 64) (bit_or (word_at plane (bit / 64)) (1 * 2 ^ (bit % 64) % 18446744073709551616))) i
    ≡ (has_bit plane i || (i == bit))
set_is plane bit within i =
    ap (λ n. has_bit (slice_set plane (bit / 64) (bit_or (word_at plane (bit / 64)) n)) i) (word_bit (bit % 64) (omega arith))
    ∙ elim (cases_eq (i / 64) (bit / 64)) [
      | inr other ↦
          ap (λ w. bit_at w (i % 64) == 1) (get_or-set_other plane (bit / 64) (i / 64) new 0 other)
          ∙ sym (ap (λ here. has_bit plane i || here) (ne_eqb i bit (λ same. other (ap (λ n. n / 64) same)))
          ∙ or-false (has_bit plane i))
      | inl here ↦
          ap (λ w. bit_at w (i % 64) == 1)
          (ap (λ k. word_at (slice_set plane (bit / 64) new) k) here
          ∙ get_or-set_same plane (bit / 64) new 0 (omega (arith, within)))
          ∙ or_word (word_at plane (bit / 64)) (2 ^ (bit % 64)) (i % 64)
          ∙ ap (λ k. (bit_at (word_at plane k) (i % 64) == 1) || (bit_at (2 ^ (bit % 64)) (i % 64) == 1)) (sym here)
          ∙ ap (λ b. has_bit plane i || b) (elim (cases_eq (i % 64) (bit % 64)) [
            | inl same ↦
                let is : i ≡ bit = omega (arith, here, same) in
                ap (λ j. bit_at (2 ^ (bit % 64)) j == 1) same ∙ ap (λ b. b == 1) (bit_at-pow_same (bit % 64)) ∙ sym (eq-eqb i bit is)
            | inr apart ↦
                ap (λ b. b == 1) (bit_at-pow_other (bit % 64) (i % 64) apart)
                ∙ sym (ne_eqb i bit (λ same. apart (ap (λ n. n % 64) same)))
          ])
    ]
  where
    new : ℕ
    new = bit_or (word_at plane (bit / 64)) (2 ^ (bit % 64))

pub or_cases : (a b : Bool) → (a || b) ≡ true → (a ≡ true) ⊎ (b ≡ true)
or_cases true b is = inl refl
or_cases false b is = inr is

pub or_from_left : (a b : Bool) → a ≡ true → (a || b) ≡ true
or_from_left true b is = refl
or_from_left false b is = absurd (false≢true is)

pub or_from_right : (a b : Bool) → b ≡ true → (a || b) ≡ true
or_from_right true b is = refl
or_from_right false b is = is

-- a vector whose words are written as a slice
pub written : (n : ℕ) (new rest : List ℕ) → n ≡ length new → take n (new ++ rest) ≡ new
written n new rest size = ap (λ k. take k (new ++ rest)) size ∙ whole new
  where
    whole : (xs : List ℕ) → take (length xs) (xs ++ rest) ≡ xs
    whole [] = refl
    whole (x ∷ xs) = ap (λ ys. x ∷ ys) (whole xs)

module _ (n : ℕ) (P : ℕ → Type 0) where
  pub plane_written : (k : ℕ) (new rest : List ℕ) → k ≡ length new → IsPlaneOf n P new → IsPlaneOf n P (take k (new ++ rest))
  plane_written k new rest size is = subst (IsPlaneOf n P) (sym (written k new rest size)) is

  -- a plane without a bit, of what never holds
  pub plane_first : (plane : List ℕ) → length plane ≡ words_of n → ((i : ℕ) → has_bit plane i ≡ false) → ((i : ℕ) → P i → ⊥) → IsPlaneOf n P plane
  plane_first plane size clear never = record {
    size = size;
    tells = λ i below. (λ set. absurd (false≢true (sym (clear i) ∙ set)), λ holds. absurd (never i holds));
  }

  -- more bits, where something more holds
  pub plane_more : (Q : ℕ → Type 0) (old new : List ℕ) (more : ℕ → Bool) → IsPlaneOf n P old → length new ≡ length old →
      ((i : ℕ) → has_bit new i ≡ (has_bit old i || more i)) → ((i : ℕ) → i < n → Q i → P i ⊎ (more i ≡ true)) →
      ((i : ℕ) → i < n → P i → Q i) → ((i : ℕ) → i < n → more i ≡ true → Q i) → IsPlaneOf n Q new
  plane_more Q old new more is same bits split kept here = record {
    size = same ∙ is.size;
    tells = λ i below. (
      λ set. elim (or_cases (has_bit old i) (more i) (sym (bits i) ∙ set)) [
        | inl before ↦ kept i below ((is.tells i below).0 before)
        | inr now ↦ here i below now
      ],
      λ holds. bits i ∙ elim (split i below holds) [
        | inl before ↦ or_from_left (has_bit old i) (more i) ((is.tells i below).1 before)
        | inr now ↦ or_from_right (has_bit old i) (more i) now
      ],
    );
  }

  -- of what is the same
  pub plane_alike : (Q : ℕ → Type 0) (plane : List ℕ) → IsPlaneOf n P plane → ((i : ℕ) → i < n → P i ↔ Q i) → IsPlaneOf n Q plane
  plane_alike Q plane is same = record {
    size = is.size;
    tells = λ i below. (λ set. (same i below).0 ((is.tells i below).0 set), λ holds. (is.tells i below).1 ((same i below).1 holds));
  }
