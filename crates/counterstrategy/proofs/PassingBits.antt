-- The bits of a number that is made of those that pass a test.
use Rattle.std.proofs.Common.{◌≡◌, ◌∙◌, ℕ, zero, suc, ◌<◌, ◌≤◌, ◌^◌, ◌==◌, ◌⊎◌, inl, inr, Bool, true, false, cond, ◌||◌, refl, sym, ap}
use Rattle.std.proofs.Common.{arith}
use Rattle.std.proofs.Math.Pow.{pow-lt}
use Rattle.std.proofs.lemmas.Nat.{or_lt}
use Rattle.std.proofs.lemmas.Nat.Bits.{bit_at_above}
use Rattle.std.proofs.lemmas.Bool.{cases_eq, eq-eqb}
use Rattle.std.proofs.lemmas.Bool.Decides.{eqb_tells}
use Rattle.std.proofs.Math.Bool.{or-false}
use Rattle.ltl_formula.specs.Cubes.{has_bit}
use Rattle.letter_space.specs.Letters.{with_bit}
use Rattle.letter_space.proofs.LetterBits.{has_bit_more}
use Rattle.counterstrategy.specs.DualDecoding.{bits_passing}

-- a number has no bit above it
pub no_bit_above : (n k b : ℕ) → n < 2 ^ k → k ≤ b → has_bit b n ≡ false
no_bit_above n k b below above = ap (λ m. m == 1) (bit_at_above n k b below above)

module _ (test : ℕ → Bool) where
  pub passing_below : (n : ℕ) → bits_passing test n < 2 ^ n
  passing_below zero = omega arith
  passing_below (suc n) = by (test n) (passing_below n)
    where
      wider : bits_passing test n < 2 ^ n → bits_passing test n < 2 ^ suc n
      wider below = let more : 2 ^ n < 2 ^ suc n = pow-lt (omega arith) in omega (arith, below, more)

      by : (t : Bool) → bits_passing test n < 2 ^ n → cond t (with_bit (bits_passing test n) n) (bits_passing test n) < 2 ^ suc n
      by true below = or_lt (suc n) (bits_passing test n) (2 ^ n) (wider below) (pow-lt (omega arith))
      by false below = wider below

  pub passing_bit : (n b : ℕ) → b < n → has_bit b (bits_passing test n) ≡ test b
  passing_bit zero b below = absurd (omega arith)
  passing_bit (suc n) b below = by (test n) refl (cases_eq b n) (passing_bit n b)
    where
      by : (t : Bool) → test n ≡ t → (b ≡ n) ⊎ (b ≡ n → ⊥) → (b < n → has_bit b (bits_passing test n) ≡ test b) →
          has_bit b (cond t (with_bit (bits_passing test n) n) (bits_passing test n)) ≡ test b
      by true is (inl here) lower =
          has_bit_more b (bits_passing test n) n
          ∙ ((λ i. no_bit_above (bits_passing test n) n b (passing_below n) (omega (arith, here)) i || eq-eqb b n here i)
          ∙ sym (ap test here ∙ is))
      by true is (inr other) lower =
          has_bit_more b (bits_passing test n) n
          ∙ (elim (eqb_tells b n) [
            | inl same ↦ absurd (other same.1)
            | inr differ ↦ ap (λ t. has_bit b (bits_passing test n) || t) differ.0 ∙ or-false (has_bit b (bits_passing test n))
          ]
          ∙ lower (omega (arith, other, below)))
      by false is (inl here) lower =
          no_bit_above (bits_passing test n) n b (passing_below n) (omega (arith, here)) ∙ sym (ap test here ∙ is)
      by false is (inr other) lower = lower (omega (arith, other, below))
