-- A cube matches a letter exactly where it does bit by bit.
use Rattle.std.proofs.Common.{◌≡◌, ◌∙◌, ℕ, zero, suc, ◌+◌, ◌-◌, ◌/◌, ◌%◌, ◌^◌, ◌<◌, ◌==◌, inl, inr, true, min, bit_and}
use Rattle.std.proofs.Common.{refl, sym, ap, arith, eq-eqb}
use Rattle.std.specs.Int.{bit_at}
use Rattle.std.proofs.Math.Nat.{div-add-mod, mul_comm}
use Rattle.std.proofs.lemmas.Nat.{and_mod}
use Rattle.std.proofs.lemmas.Nat.Bits.{bit_at_and, bit_at-lt, bit_at_above, bit_at_cat_low, same_from_bits}
use Rattle.std.proofs.lemmas.Bool.{eqb-true, cases_lt}
use Rattle.std.proofs.lemmas.Bool.Decides.{eqb_tells}
use Rattle.ltl_formula.specs.Cubes.{has_bit, cube_matches, IsWithin}

-- bits that pass the same test are the same
pub same_bit : (m n : ℕ) → m < 2 → n < 2 → (m == 1) ≡ (n == 1) → m ≡ n
same_bit zero zero below below_too same = refl
same_bit zero (suc zero) below below_too same = absurd cc
same_bit (suc zero) zero below below_too same = absurd cc
same_bit (suc zero) (suc zero) below below_too same = refl
same_bit (suc (suc m)) n below below_too same = absurd (omega arith)
same_bit zero (suc (suc n)) below below_too same = absurd (omega arith)
same_bit (suc zero) (suc (suc n)) below below_too same = absurd (omega arith)

pub same_bits : (b m n : ℕ) → has_bit b m ≡ has_bit b n → bit_at m b ≡ bit_at n b
same_bits b m n same = same_bit (bit_at m b) (bit_at n b) (bit_at-lt m b) (bit_at-lt n b) same

-- the low bits of a number
pub low_bit : (n k i : ℕ) → i < k → bit_at (n % 2 ^ k) i ≡ bit_at n i
low_bit n k i within =
    sym (bit_at_cat_low (n / 2 ^ k) k (n % 2 ^ k) i within)
    ∙ ap (λ m. bit_at m i) (ap (λ m. m + n % 2 ^ k) (mul_comm (n / 2 ^ k) (2 ^ k)) ∙ div-add-mod n (2 ^ k))

module _ (care want letter : ℕ) where
  pub bits_from_match : cube_matches care want letter ≡ true → (i : ℕ) → min (bit_at letter i) (bit_at care i) ≡ bit_at want i
  bits_from_match matches i =
      sym (bit_at_and letter care i) ∙ ap (λ n. bit_at n i) (eqb-true (bit_and letter care) want matches)

  pub match_from_bits : ((i : ℕ) → min (bit_at letter i) (bit_at care i) ≡ bit_at want i) → cube_matches care want letter ≡ true
  match_from_bits bits =
      eq-eqb (bit_and letter care) want (same_from_bits (bit_and letter care) want (λ i. bit_at_and letter care i ∙ bits i))

  pub low_match : (k : ℕ) → cube_matches care want letter ≡ true → cube_matches (care % 2 ^ k) (want % 2 ^ k) (letter % 2 ^ k) ≡ true
  low_match k matches =
      eq-eqb (bit_and (letter % 2 ^ k) (care % 2 ^ k)) (want % 2 ^ k)
      (sym (and_mod letter care k) ∙ ap (λ n. n % 2 ^ k) (eqb-true (bit_and letter care) want matches))

  -- a bit that a cube asks for is as it wants it
  pub asked_bit : cube_matches care want letter ≡ true → (b : ℕ) → has_bit b care ≡ true → has_bit b want ≡ has_bit b letter
  asked_bit matches b asked =
      let bits = bits_from_match matches b in
      let one = eqb-true (bit_at care b) 1 asked in
      let same : bit_at want b ≡ bit_at letter b = omega (arith, bits, one, bit_at-lt letter b) in
      ap (λ m. m == 1) same

  -- a cube that wants only what it asks for, by the parts of a letter: low bits that are those of a number, high bits, and none behind
  pub match_from_parts : (low high v : ℕ) → IsWithin care want → want < 2 ^ (low + high) → letter < 2 ^ (low + high) →
      ((b : ℕ) → b < low → has_bit b letter ≡ has_bit b v) → cube_matches (care % 2 ^ low) (want % 2 ^ low) v ≡ true →
      ((b : ℕ) → b < high → has_bit (low + b) care ≡ true → has_bit (low + b) want ≡ has_bit (low + b) letter) →
      cube_matches care want letter ≡ true
  match_from_parts low high v itself few few_too lows low_matches highs = match_from_bits each
    where
      inside : (i : ℕ) → min (bit_at want i) (bit_at care i) ≡ bit_at want i
      inside i =
          sym (bit_at_and want care i) ∙ ap (λ n. bit_at n i) itself

      high_bit : (b : ℕ) → b < high → min (bit_at letter (low + b)) (bit_at care (low + b)) ≡ bit_at want (low + b)
      high_bit b within = elim (eqb_tells (bit_at care (low + b)) 1) [
        | inl asked ↦
            let same = same_bits (low + b) want letter (highs b within asked.0) in
            omega (arith, same, asked.1, bit_at-lt letter (low + b))
        | inr free ↦
            let none : bit_at care (low + b) ≡ 0 = omega (arith, free.1, bit_at-lt care (low + b)) in
            omega (arith, none, inside (low + b))
      ]

      each : (i : ℕ) → min (bit_at letter i) (bit_at care i) ≡ bit_at want i
      each i = elim (cases_lt i low) [
        | inl here ↦
            let lows_match = eqb-true (bit_and v (care % 2 ^ low)) (want % 2 ^ low) low_matches in
            let bits : min (bit_at v i) (bit_at (care % 2 ^ low) i) ≡ bit_at (want % 2 ^ low) i =
            sym (bit_at_and v (care % 2 ^ low) i) ∙ ap (λ n. bit_at n i) lows_match in
            let same = same_bits i letter v (lows i here) in
            omega (arith, bits, same, low_bit care low i here, low_bit want low i here)
        | inr behind ↦ (elim (cases_lt i (low + high)) [
          | inl within ↦
              let place : low + (i - low) ≡ i = omega arith in
              ap (λ k. min (bit_at letter k) (bit_at care k)) (sym place)
              ∙ (high_bit (i - low) (omega arith) ∙ ap (bit_at want) place)
          | inr past ↦
              let no_letter = bit_at_above letter (low + high) i few_too past in
              let no_want = bit_at_above want (low + high) i few past in
              omega (arith, no_letter, no_want)
        ])
      ]
