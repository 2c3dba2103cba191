-- A bit of a plane is written, and the least number of a set is found by its summaries.
use Rattle.std.proofs.Common.{◌≡◌, ◌∙◌, ℕ, zero, suc, replicate, ◌*◌, ◌/◌, ◌%◌, ◌^◌, ◌<◌, ◌==◌, Bool, true, false, not, cond, List, length, slice_set}
use Rattle.std.proofs.Common.{refl, sym, ap, arith, bit_and, bit_or, inl, inr, w64}
use Rattle.std.specs.Int.{bit_at, bit_not}
use Rattle.std.proofs.lemmas.Bool.{false≢true, cases_eq, cases_lt, eq-eqb, ne_eqb, eqb-true, eqb-false, not-true, not-false}
use Rattle.std.proofs.lemmas.List.{get_or-set_same, get_or-set_other, get_or_past}
use Rattle.std.proofs.lemmas.Nat.Bits.{bit_at-zero, bit_at_set_same, bit_at_set_other, bit_at_clear_same, bit_at_clear_other}
use Rattle.lane_planes.specs.Planes.{word_at, has_bit}
use Rattle.clause_learning.specs.NumberSets.{IsSummary, IsLeastBit, IsFirstWord}

-- ---- one bit is written

-- a word that has one bit so, and the others as before
abbrev pub IsWordWith : ℕ → ℕ → Bool → ℕ → Type 0
IsWordWith old k b new = (i : ℕ) → i < 64 → (bit_at new i == 1) ≡ cond (i == k) b (bit_at old i == 1)

word_with : (old k : ℕ) (b : Bool) (new : ℕ) → (bit_at new k == 1) ≡ b → ((i : ℕ) → i < 64 → (i ≡ k → ⊥) → bit_at new i ≡ bit_at old i) →
    IsWordWith old k b new
word_with old k b new here others i within = elim (cases_eq i k) [
  | inl is ↦ ap (λ j. bit_at new j == 1) is ∙ (here ∙ sym (ap (λ t. cond t b (bit_at old i == 1)) (eq-eqb i k is)))
  | inr apart ↦ ap (λ n. n == 1) (others i within apart) ∙ sym (ap (λ t. cond t b (bit_at old i == 1)) (ne_eqb i k apart))
]

pub word_set : (old k : ℕ) → k < 64 → IsWordWith old k true (bit_or old (1 * 2 ^ k % 2 ^ 64))
word_set old k within = word_with old k true (bit_or old (1 * 2 ^ k % 2 ^ 64)) (ap (λ n. n == 1) (bit_at_set_same w64 old k within))
    (λ i below apart. bit_at_set_other w64 old k within i apart)

pub word_cleared : (old k : ℕ) → k < 64 → IsWordWith old k false (bit_and old (bit_not w64 (1 * 2 ^ k % 2 ^ 64)))
word_cleared old k within = word_with old k false (bit_and old (bit_not w64 (1 * 2 ^ k % 2 ^ 64)))
    (ap (λ n. n == 1) (bit_at_clear_same w64 old k within)) (λ i below apart. bit_at_clear_other w64 old k within i below apart)

pub written : (plane : List ℕ) (bit new : ℕ) (b : Bool) → bit < 64 * length plane → IsWordWith (word_at plane (bit / 64)) (bit % 64) b new →
    (other : ℕ) → has_bit (slice_set plane (bit / 64) new) other ≡ cond (other == bit) b (has_bit plane other)
written plane bit new b within with other = elim (cases_eq (other / 64) (bit / 64)) [
  | inr apart ↦ ap (λ w. bit_at w (other % 64) == 1) (get_or-set_other plane (bit / 64) (other / 64) new 0 apart)
      ∙ sym (ap (λ t. cond t b (has_bit plane other)) (ne_eqb other bit (λ same. apart (ap (λ n. n / 64) same))))
  | inl here ↦ ap (λ w. bit_at w (other % 64) == 1)
      (ap (word_at (slice_set plane (bit / 64) new)) here ∙ get_or-set_same plane (bit / 64) new 0 (omega (arith, within)))
      ∙ (with (other % 64) (omega arith)
      ∙ ap (λ k. cond (other % 64 == bit % 64) b (bit_at (word_at plane k) (other % 64) == 1)) (sym here)
      ∙ ap (λ t. cond t b (has_bit plane other)) (elim (cases_eq other bit) [
        | inl is ↦ eq-eqb (other % 64) (bit % 64) (ap (λ n. n % 64) is) ∙ sym (eq-eqb other bit is)
        | inr apart ↦ ne_eqb (other % 64) (bit % 64) (λ same. apart (omega (arith, here, same))) ∙ sym (ne_eqb other bit apart)
      ]))
]

-- ---- summaries

pub summary_written : (summary after plane plane_after : List ℕ) (k : ℕ) → IsSummary summary plane →
    ((other : ℕ) → has_bit after other ≡ cond (other == k) (not (word_at plane_after k == 0)) (has_bit summary other)) →
    ((j : ℕ) → (j ≡ k → ⊥) → word_at plane_after j ≡ word_at plane j) → IsSummary after plane_after
summary_written summary after plane plane_after k is bits words j = elim (cases_eq j k) [
  | inl here ↦ bits j ∙ (ap (λ t. cond t (not (word_at plane_after k == 0)) (has_bit summary j)) (eq-eqb j k here)
      ∙ ap (λ i. not (word_at plane_after i == 0)) (sym here))
  | inr apart ↦ bits j ∙ (ap (λ t. cond t (not (word_at plane_after k == 0)) (has_bit summary j)) (ne_eqb j k apart)
      ∙ (is j ∙ ap (λ w. not (w == 0)) (sym (words j apart))))
]

-- a word that is not summed up is 0
no_word : (summary plane : List ℕ) → IsSummary summary plane → (k : ℕ) → has_bit summary k ≡ false → word_at plane k ≡ 0
no_word summary plane is k none = eqb-true (word_at plane k) 0 (not-false (word_at plane k == 0) (sym (is k) ∙ none))

pub first_word : (summary plane : List ℕ) → IsSummary summary plane → (k : ℕ) → IsLeastBit summary k → IsFirstWord plane k
first_word summary plane is k least = record {
  some = (let not_zero : word_at plane k ≡ 0 → ⊥ = eqb-false (word_at plane k) 0 (not-true (word_at plane k == 0) (sym (is k) ∙ least.here)) in
      omega (arith, not_zero));
  none_before = λ j below. no_word summary plane is j (least.none_before j below);
}

pub no_number : (summary plane : List ℕ) → IsSummary summary plane → ((k : ℕ) → has_bit summary k ≡ false) → (i : ℕ) → has_bit plane i ≡ false
no_number summary plane is none i = ap (λ w. bit_at w (i % 64) == 1) (no_word summary plane is (i / 64) (none (i / 64)))
    ∙ ap (λ b. b == 1) (bit_at-zero (i % 64))

pub word_within : (plane : List ℕ) (k : ℕ) → 0 < word_at plane k → k < length plane
word_within plane k some = elim (cases_lt k (length plane)) [
  | inl within ↦ within
  | inr over ↦ absurd (omega (arith, some, get_or_past plane k 0 over))
]

pub bit_within : (plane : List ℕ) (i : ℕ) → has_bit plane i ≡ true → i / 64 < length plane
bit_within plane i here = elim (cases_eq (word_at plane (i / 64)) 0) [
  | inl none ↦ absurd (false≢true (sym (ap (λ w. bit_at w (i % 64) == 1) none ∙ ap (λ b. b == 1) (bit_at-zero (i % 64))) ∙ here))
  | inr some ↦ word_within plane (i / 64) (omega (arith, some))
]

pub empty_plane : (plane : List ℕ) (n : ℕ) → plane ≡ replicate {A = ℕ} n 0 → (k : ℕ) → word_at plane k ≡ 0
empty_plane plane n is k = ap (λ (xs : List ℕ). word_at xs k) is ∙ at n k
  where
    at : (n k : ℕ) → word_at (replicate {A = ℕ} n 0) k ≡ 0
    at zero k = refl
    at (suc n) zero = refl
    at (suc n) (suc k) = at n k

pub empty_bits : (plane : List ℕ) → ((k : ℕ) → word_at plane k ≡ 0) → (i : ℕ) → has_bit plane i ≡ false
empty_bits plane none i = ap (λ w. bit_at w (i % 64) == 1) (none (i / 64)) ∙ ap (λ b. b == 1) (bit_at-zero (i % 64))

pub empty_summary : (summary plane : List ℕ) → ((k : ℕ) → word_at summary k ≡ 0) → ((k : ℕ) → word_at plane k ≡ 0) → IsSummary summary plane
empty_summary summary plane none none_too k = empty_bits summary none k ∙ ap (λ w. not (w == 0)) (sym (none_too k))
