-- Planes word by word.
use Rattle.std.proofs.Common.{◌≡◌, ◌∙◌, ℕ, zero, suc, ◌+◌, ◌-◌, ◌*◌, ◌/◌, ◌%◌, ◌^◌, ◌<◌, ◌==◌, Bool, false, refl, sym, ap, arith, inl}
use Rattle.std.proofs.Common.{inr, List, length}
use Rattle.std.specs.Prelude.{slice_set}
use Rattle.std.proofs.lemmas.Bool.{cases_lt}
use Rattle.std.proofs.lemmas.List.{get_or-set_same, get_or-set_other, length-set}
use Rattle.std.proofs.lemmas.Nat.Bits.{bit_at_lowest}
use Rattle.lane_planes.specs.Planes.{word_at, has_bit}
use Rattle.lane_planes.proofs.BitLemmas.{bit_of}
use Rattle.position_planes.specs.Carries.{word_bit, carry_to, shifted}
use Rattle.position_planes.specs.internal.Words.{IsCarried, IsShifted}
use Rattle.position_planes.proofs.CarryLemmas.{carry_on, carry_same}

-- what comes from a bit of a word, by what comes to the word
pub of_word : (old right : List ℕ) (carried : Bool) (k i : ℕ) (d : Bool) → i < 64 →
    d ≡ carry_to (has_bit old) (has_bit right) carried (k * 64) →
    carry_to (word_bit (word_at old k)) (word_bit (word_at right k)) d (suc i)
    ≡ carry_to (has_bit old) (has_bit right) carried (k * 64 + suc i)
of_word old right carried k i d low comes =
    carry_same (word_bit (word_at old k)) (word_bit (word_at right k)) (λ j. has_bit old (k * 64 + j)) (λ j. has_bit right (k * 64 + j))
    d (suc i)
    (λ j under. sym (bit_of old k j (omega (arith, under, low)))) (λ j under. sym (bit_of right k j (omega (arith, under, low))))
    ∙ ap (λ e. carry_to (λ j. has_bit old (k * 64 + j)) (λ j. has_bit right (k * 64 + j)) e (suc i)) comes
    ∙ sym (carry_on (has_bit old) (has_bit right) carried (k * 64) (suc i))

pub none_carried : (old right : List ℕ) (carried : Bool) (c : ℕ) → c < 2 → word_bit c 0 ≡ carried → IsCarried old right carried 0 old c
none_carried old right carried c few is = record {
  size = refl;
  few = few;
  comes = is;
  done = λ i none. absurd (omega (arith, none));
  left = λ k over. refl;
}

pub word_carried : (old right now : List ℕ) (carried : Bool) (k carry word : ℕ) → k < length now → word < 2 ^ 64 →
    IsCarried old right carried k now carry →
    ((i : ℕ) → i < 64 → word_bit word i ≡ carry_to (word_bit (word_at now k)) (word_bit (word_at right k)) (word_bit carry 0) (suc i)) →
    IsCarried old right carried (k + 1) (slice_set now k word) (word / 2 ^ 63)
word_carried old right now carried k carry word within fits before bits = record {
  size = length-set now k word ∙ before.size;
  few = omega (arith, fits);
  comes = bit_at_lowest_of ∙ whole 63 (omega arith) ∙ ap (carry_to (has_bit old) (has_bit right) carried) end;
  done = λ i under. elim (cases_lt i (k * 64)) [
    | inl low ↦
        let other : i / 64 < k = omega (arith, low) in
        ap (λ w. word_bit w (i % 64)) (get_or-set_other now k (i / 64) word 0 (λ same. absurd (omega (arith, same, other))))
        ∙ before.done i low
    | inr high ↦
        let j : ℕ = i - k * 64 in
        let place : k * 64 + j ≡ i = omega (arith, high) in
        let next : k * 64 + suc j ≡ suc i = omega (arith, high) in
        let low : j < 64 = omega (arith, under, high) in
        ap (has_bit (slice_set now k word)) (sym place) ∙ bit_of (slice_set now k word) k j low
        ∙ ap (λ w. word_bit w j) (get_or-set_same now k word 0 within) ∙ whole j low
        ∙ ap (carry_to (has_bit old) (has_bit right) carried) next
  ];
  left = λ m over. get_or-set_other now k m word 0 (λ same. absurd (omega (arith, same, over))) ∙ before.left m (omega (arith, over));
}
  where
    whole : (j : ℕ) → j < 64 → word_bit word j ≡ carry_to (has_bit old) (has_bit right) carried (k * 64 + suc j)
    whole j low =
        bits j low
        ∙ ap (λ w. carry_to (word_bit w) (word_bit (word_at right k)) (word_bit carry 0) (suc j)) (before.left k (omega arith))
        ∙ of_word old right carried k j (word_bit carry 0) low before.comes

    end : k * 64 + 64 ≡ (k + 1) * 64
    end = omega arith

    bit_at_lowest_of : word_bit (word / 2 ^ 63) 0 ≡ word_bit word 63
    bit_at_lowest_of = ap (λ b. b == 1) (bit_at_lowest (word / 2 ^ 63))

-- the word at a bit, to which the carries below it come
pub at_bit : (left right : List ℕ) (bit carry word : ℕ) → word_bit carry 0 ≡ carry_to (has_bit left) (has_bit right) false (bit / 64 * 64) →
    ((i : ℕ) → i < 64 → word_bit word i
    ≡ carry_to (word_bit (word_at left (bit / 64))) (word_bit (word_at right (bit / 64))) (word_bit carry 0) (suc i)) →
    word_bit word (bit % 64) ≡ carry_to (has_bit left) (has_bit right) false (suc bit)
at_bit left right bit carry word comes bits =
    let place : bit / 64 * 64 + suc (bit % 64) ≡ suc bit = omega arith in
    bits (bit % 64) (omega arith)
    ∙ of_word left right false (bit / 64) (bit % 64) (word_bit carry 0) (omega arith) comes
    ∙ ap (carry_to (has_bit left) (has_bit right) false) place

-- the carry of a word comes to the next one
pub carry_next : (left right : List ℕ) (k carry word : ℕ) → word < 2 ^ 64 →
    word_bit carry 0 ≡ carry_to (has_bit left) (has_bit right) false (k * 64) →
    ((i : ℕ) → i < 64 → word_bit word i ≡ carry_to (word_bit (word_at left k)) (word_bit (word_at right k)) (word_bit carry 0) (suc i)) →
    (word / 2 ^ 63 < 2) × (word_bit (word / 2 ^ 63) 0 ≡ carry_to (has_bit left) (has_bit right) false ((k + 1) * 64))
carry_next left right k carry word fits comes bits =
    let end : k * 64 + 64 ≡ (k + 1) * 64 = omega arith in (
      omega (arith, fits),
      ap (λ b. b == 1) (bit_at_lowest (word / 2 ^ 63)) ∙ bits 63 (omega arith)
          ∙ of_word left right false k 63 (word_bit carry 0) (omega arith) comes
          ∙ ap (carry_to (has_bit left) (has_bit right) false) end,
    )

pub none_shifted : (old : List ℕ) (carried : Bool) (c : ℕ) → c < 2 → word_bit c 0 ≡ carried → IsShifted old carried 0 old c
none_shifted old carried c few is = record {
  size = refl;
  few = few;
  comes = is;
  done = λ i none. absurd (omega (arith, none));
  left = λ k over. refl;
}

pub word_shifted : (old now : List ℕ) (carried : Bool) (k carry word : ℕ) → k < length now → word_at now k < 2 ^ 64 →
    IsShifted old carried k now carry → ((i : ℕ) → i < 64 → word_bit word i ≡ shifted (word_bit (word_at now k)) (word_bit carry 0) i) →
    IsShifted old carried (k + 1) (slice_set now k word) (word_at now k / 2 ^ 63)
word_shifted old now carried k carry word within fits before bits = record {
  size = length-set now k word ∙ before.size;
  few = omega (arith, fits);
  comes =
      let end : suc (k * 64 + 63) ≡ (k + 1) * 64 = omega arith in
      ap (λ b. b == 1) (bit_at_lowest (word_at now k / 2 ^ 63)) ∙ ap (λ w. word_bit w 63) (before.left k (omega arith))
      ∙ sym (bit_of old k 63 (omega arith)) ∙ ap (shifted (has_bit old) carried) end;
  done = λ i under. elim (cases_lt i (k * 64)) [
    | inl low ↦
        let other : i / 64 < k = omega (arith, low) in
        ap (λ w. word_bit w (i % 64)) (get_or-set_other now k (i / 64) word 0 (λ same. absurd (omega (arith, same, other))))
        ∙ before.done i low
    | inr high ↦
        let j : ℕ = i - k * 64 in
        let place : k * 64 + j ≡ i = omega (arith, high) in
        let low : j < 64 = omega (arith, under, high) in
        ap (has_bit (slice_set now k word)) (sym place) ∙ bit_of (slice_set now k word) k j low
        ∙ ap (λ w. word_bit w j) (get_or-set_same now k word 0 within) ∙ bits j low ∙ whole j low
        ∙ ap (shifted (has_bit old) carried) place
  ];
  left = λ m over. get_or-set_other now k m word 0 (λ same. absurd (omega (arith, same, over))) ∙ before.left m (omega (arith, over));
}
  where
    whole : (j : ℕ) → j < 64 → shifted (word_bit (word_at now k)) (word_bit carry 0) j ≡ shifted (has_bit old) carried (k * 64 + j)
    whole zero low = let same : k * 64 ≡ k * 64 + 0 = omega arith in before.comes ∙ ap (shifted (has_bit old) carried) same
    whole (suc j) low =
        let next : suc (k * 64 + j) ≡ k * 64 + suc j = omega arith in
        ap (λ w. word_bit w j) (before.left k (omega arith)) ∙ sym (bit_of old k j (omega (arith, low)))
        ∙ ap (shifted (has_bit old) carried) next
