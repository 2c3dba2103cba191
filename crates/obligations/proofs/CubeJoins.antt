-- Two cubes together.
use Rattle.std.proofs.Common.{◌≡◌, ◌∙◌, ℕ, ◌+◌, ◌%◌, ◌<◌, sym, ap, arith, bit_and, bit_or, min, max}
use Rattle.std.specs.Int.{bit_at}
use Rattle.std.specs.Prelude.{bit_xor}
use Rattle.std.proofs.lemmas.Nat.Bits.{bit_at_and, bit_at_or, bit_at_xor, bit_at-lt, bit_at-zero, same_from_bits}

-- the facts at one bit
left_bit : (l c w d v : ℕ) → l < 2 → c < 2 → w < 2 → d < 2 → v < 2 → min w c ≡ w → min v d ≡ v → min ((w + v) % 2) (min c d) ≡ 0 →
    min l (max c d) ≡ max w v → min l c ≡ w
left_bit l c w d v a b e f g h k m n = omega arith

right_bit : (l c w d v : ℕ) → l < 2 → c < 2 → w < 2 → d < 2 → v < 2 → min w c ≡ w → min v d ≡ v → min ((w + v) % 2) (min c d) ≡ 0 →
    min l (max c d) ≡ max w v → min l d ≡ v
right_bit l c w d v a b e f g h k m n = omega arith

both_bit : (l c w d v : ℕ) → l < 2 → c < 2 → w < 2 → d < 2 → v < 2 → min l c ≡ w → min l d ≡ v → min l (max c d) ≡ max w v
both_bit l c w d v a b e f g h k = omega arith

within_bit : (c w d v : ℕ) → c < 2 → w < 2 → d < 2 → v < 2 → min w c ≡ w → min v d ≡ v → min (max w v) (max c d) ≡ max w v
within_bit c w d v a b e f g h = omega arith

apart_bit : (l c w d v : ℕ) → l < 2 → c < 2 → w < 2 → d < 2 → v < 2 → min l c ≡ w → min l d ≡ v → min ((w + v) % 2) (min c d) ≡ 0
apart_bit l c w d v a b e f g h k = omega arith

pub at_and : (m n k i : ℕ) → bit_and m n ≡ k → min (bit_at m i) (bit_at n i) ≡ bit_at k i
at_and m n k i h = sym (bit_at_and m n i) ∙ ap (λ z. bit_at z i) h

module _ (l c w d v : ℕ) where
  apart_at : bit_and (bit_xor w v) (bit_and c d) ≡ 0 → (i : ℕ) → min ((bit_at w i + bit_at v i) % 2) (min (bit_at c i) (bit_at d i)) ≡ 0
  apart_at h i =
      (λ k. min (sym (bit_at_xor w v i) k) (sym (bit_at_and c d i) k)) ∙ at_and (bit_xor w v) (bit_and c d) 0 i h ∙ bit_at-zero i

  joined_at : bit_and l (bit_or c d) ≡ bit_or w v → (i : ℕ) → min (bit_at l i) (max (bit_at c i) (bit_at d i))
      ≡ max (bit_at w i) (bit_at v i)
  joined_at h i = ap (min (bit_at l i)) (sym (bit_at_or c d i)) ∙ at_and l (bit_or c d) (bit_or w v) i h ∙ bit_at_or w v i

  -- a letter that matches both together matches each
  pub matches_left : bit_and w c ≡ w → bit_and v d ≡ v → bit_and (bit_xor w v) (bit_and c d) ≡ 0 → bit_and l (bit_or c d) ≡ bit_or w v →
      bit_and l c ≡ w
  matches_left in_c in_d apart h = same_from_bits (bit_and l c) w (λ i.
      bit_at_and l c i ∙ left_bit (bit_at l i) (bit_at c i) (bit_at w i) (bit_at d i) (bit_at v i) (bit_at-lt l i) (bit_at-lt c i)
      (bit_at-lt w i) (bit_at-lt d i) (bit_at-lt v i)
      (at_and w c w i in_c) (at_and v d v i in_d) (apart_at apart i) (joined_at h i))

  pub matches_right : bit_and w c ≡ w → bit_and v d ≡ v → bit_and (bit_xor w v) (bit_and c d) ≡ 0 → bit_and l (bit_or c d) ≡ bit_or w v →
      bit_and l d ≡ v
  matches_right in_c in_d apart h = same_from_bits (bit_and l d) v (λ i.
      bit_at_and l d i ∙ right_bit (bit_at l i) (bit_at c i) (bit_at w i) (bit_at d i) (bit_at v i) (bit_at-lt l i) (bit_at-lt c i)
      (bit_at-lt w i) (bit_at-lt d i) (bit_at-lt v i)
      (at_and w c w i in_c) (at_and v d v i in_d) (apart_at apart i) (joined_at h i))

  -- one that matches each matches both together, and then they do not contradict each other
  pub matches_both : bit_and l c ≡ w → bit_and l d ≡ v → bit_and l (bit_or c d) ≡ bit_or w v
  matches_both a b = same_from_bits (bit_and l (bit_or c d)) (bit_or w v) (λ i.
      bit_at_and l (bit_or c d) i ∙ ap (min (bit_at l i)) (bit_at_or c d i)
      ∙ both_bit (bit_at l i) (bit_at c i) (bit_at w i) (bit_at d i) (bit_at v i) (bit_at-lt l i) (bit_at-lt c i) (bit_at-lt w i)
      (bit_at-lt d i) (bit_at-lt v i)
      (at_and l c w i a) (at_and l d v i b)
      ∙ sym (bit_at_or w v i))

  pub matches_apart : bit_and l c ≡ w → bit_and l d ≡ v → bit_and (bit_xor w v) (bit_and c d) ≡ 0
  matches_apart a b = same_from_bits (bit_and (bit_xor w v) (bit_and c d)) 0 (λ i.
      bit_at_and (bit_xor w v) (bit_and c d) i ∙ (λ k. min (bit_at_xor w v i k) (bit_at_and c d i k))
      ∙ apart_bit (bit_at l i) (bit_at c i) (bit_at w i) (bit_at d i) (bit_at v i) (bit_at-lt l i) (bit_at-lt c i) (bit_at-lt w i)
      (bit_at-lt d i) (bit_at-lt v i)
      (at_and l c w i a) (at_and l d v i b)
      ∙ sym (bit_at-zero i))

-- wanted bits are among those asked for
pub within_both : (c w d v : ℕ) → bit_and w c ≡ w → bit_and v d ≡ v → bit_and (bit_or w v) (bit_or c d) ≡ bit_or w v
within_both c w d v in_c in_d = same_from_bits (bit_and (bit_or w v) (bit_or c d)) (bit_or w v) (λ i.
    bit_at_and (bit_or w v) (bit_or c d) i ∙ (λ k. min (bit_at_or w v i k) (bit_at_or c d i k))
    ∙ within_bit (bit_at c i) (bit_at w i) (bit_at d i) (bit_at v i) (bit_at-lt c i) (bit_at-lt w i) (bit_at-lt d i) (bit_at-lt v i)
    (at_and w c w i in_c) (at_and v d v i in_d)
    ∙ sym (bit_at_or w v i))
