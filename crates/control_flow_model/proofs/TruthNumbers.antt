-- A number whose bits are truths.
use Rattle.std.proofs.Common.{◌≡◌, ◌∙◌, ℕ, zero, suc, ◌+◌, ◌*◌, ◌/◌, ◌%◌, ◌^◌, ◌<◌, ◌==◌, Bool, true, false, cond, List, [], ◌∷◌, length}
use Rattle.std.proofs.Common.{Some, slice_get, ap, arith}
use Rattle.std.proofs.lemmas.Option.{none-some, same_Some}
use Rattle.std.proofs.lemmas.Nat.Bits.{bit_at_lowest, bit_at-suc}
use Rattle.std.proofs.Math.Nat.{pow-suc}
use Rattle.ltl_formula.specs.Cubes.{has_bit}

module _ {X : Type 0} (truth : X → Bool) where
  -- the bit at each member's place is the member's truth
  abbrev pub number_of_truths : List X → ℕ
  number_of_truths [] = 0
  number_of_truths (x ∷ xs) = cond (truth x) 1 0 + 2 * number_of_truths xs

  pub truths_below : (xs : List X) → number_of_truths xs < 2 ^ length xs
  truths_below [] = omega arith
  truths_below (x ∷ xs) = by (truth x) (truths_below xs)
    where
      by : (b : Bool) → number_of_truths xs < 2 ^ length xs → cond b 1 0 + 2 * number_of_truths xs < 2 ^ suc (length xs)
      by true rest = omega (arith, rest, pow-suc 2 (length xs))
      by false rest = omega (arith, rest, pow-suc 2 (length xs))

  pub truth_bit : (xs : List X) (k : ℕ) (x : X) → slice_get xs k ≡ Some x → has_bit k (number_of_truths xs) ≡ truth x
  truth_bit [] k x at = absurd (none-some x at)
  truth_bit (y ∷ xs) zero x at =
      ap (λ n. n == 1) (bit_at_lowest (number_of_truths (y ∷ xs))) ∙ by (truth y) ∙ ap truth (same_Some y x at)
    where
      by : (b : Bool) → ((cond b 1 0 + 2 * number_of_truths xs) % 2 == 1) ≡ b
      by true = let one : (1 + 2 * number_of_truths xs) % 2 ≡ 1 = omega arith in ap (λ n. n == 1) one
      by false = let none : (0 + 2 * number_of_truths xs) % 2 ≡ 0 = omega arith in ap (λ n. n == 1) none
  truth_bit (y ∷ xs) (suc k) x at =
      ap (λ n. n == 1) (bit_at-suc (number_of_truths (y ∷ xs)) k) ∙ ap (has_bit k) (by (truth y)) ∙ truth_bit xs k x at
    where
      by : (b : Bool) → (cond b 1 0 + 2 * number_of_truths xs) / 2 ≡ number_of_truths xs
      by true = omega arith
      by false = omega arith
