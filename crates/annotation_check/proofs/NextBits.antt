-- The first bit of a plane from one on: in the word of that one, or in the words behind it.
use Rattle.std.proofs.Common.{◌≡◌, ◌∙◌, ℕ, zero, suc, ◌+◌, ◌-◌, ◌*◌, ◌/◌, ◌%◌, ◌^◌, ◌<◌, ◌≤◌, ◌==◌, true, false, List, [], ◌∷◌, length}
use Rattle.std.proofs.Common.{take, drop, refl, sym, ap, arith, inl, inr, w64}
use Rattle.std.specs.Int.{bit_at, trailing_zeros}
use Rattle.std.proofs.lemmas.Bool.{cases_lt}
use Rattle.std.proofs.lemmas.Nat.{shr-shr, shr_le}
use Rattle.std.proofs.lemmas.Nat.Bits.{bit_at-zero, bit_at_above, bit_at-trailing_zeros}
use Rattle.lane_planes.specs.Planes.{word_at, has_bit}

-- ---- the words behind one

rest_word : (word k : ℕ) (plane : List ℕ) → word_at (take (length plane - word) (drop word plane)) k ≡ word_at plane (word + k)
rest_word zero k plane =
    let same : k ≡ 0 + k = omega arith in
    let all : length plane - 0 ≡ length plane = omega arith in
    ap (λ n. word_at (take n plane) k) all ∙ whole k (length plane) plane (omega arith) ∙ ap (word_at plane) same
  where
    whole : (k n : ℕ) (xs : List ℕ) → length xs ≤ n → word_at (take n xs) k ≡ word_at xs k
    whole k zero [] room = refl
    whole k (suc n) [] room = refl
    whole k zero (x ∷ xs) room = absurd (omega (arith, room))
    whole zero (suc n) (x ∷ xs) room = refl
    whole (suc k) (suc n) (x ∷ xs) room = whole k n xs (omega (arith, room))
rest_word (suc word) k [] = let none : length {A = ℕ} [] - suc word ≡ 0 = omega arith in ap (λ n. word_at (take n []) k) none
rest_word (suc word) k (x ∷ plane) =
    let size : suc (length plane) - suc word ≡ length plane - word = omega arith in
    let next : suc (word + k) ≡ suc word + k = omega arith in
    ap (λ n. word_at (take n (drop word plane)) k) size ∙ rest_word word k plane ∙ ap (word_at (x ∷ plane)) next

rest_bit : (plane : List ℕ) (word i : ℕ) → has_bit (take (length plane - word) (drop word plane)) i ≡ has_bit plane (word * 64 + i)
rest_bit plane word i =
    let at : word + i / 64 ≡ (word * 64 + i) / 64 = omega arith in
    let on : i % 64 ≡ (word * 64 + i) % 64 = omega arith in
    ap (λ w. bit_at w (i % 64) == 1) (rest_word word (i / 64) plane) ∙ (λ k. bit_at (word_at plane (at k)) (on k) == 1)

behind : (plane : List ℕ) (word i : ℕ) → word * 64 ≤ i → has_bit (take (length plane - word) (drop word plane)) (i - word * 64) ≡ has_bit plane i
behind plane word i from =
    let place : word * 64 + (i - word * 64) ≡ i = omega (arith, from) in
    rest_bit plane word (i - word * 64) ∙ ap (has_bit plane) place

-- ---- the word of a bit, shifted to it

module _ (plane : List ℕ) (from : ℕ) where
  abbrev here : ℕ
  here = word_at plane (from / 64) / 2 ^ (from % 64)

  at_here : (i : ℕ) → from ≤ i → i < (from / 64 + 1) * 64 → has_bit plane i ≡ (bit_at here (i - from) == 1)
  at_here i low high =
      let word : i / 64 ≡ from / 64 = omega (arith, low, high) in
      let place : i % 64 ≡ from % 64 + (i - from) = omega (arith, low, high) in
      (λ k. bit_at (word_at plane (word k)) (place k) == 1)
      ∙ ap (λ n. n % 2 == 1) (sym (shr-shr (word_at plane (from / 64)) (from % 64) (i - from)))

  module _ (some : 0 < here) (fits : word_at plane (from / 64) < 2 ^ 64) where
    abbrev zeros : ℕ
    zeros = trailing_zeros w64 here

    found : (zeros < 64) × (bit_at here zeros ≡ 1) × ((i : ℕ) → i < zeros → bit_at here i ≡ 0)
    found = let less = shr_le (word_at plane (from / 64)) (from % 64) in bit_at-trailing_zeros w64 here some (omega (arith, fits, less))

    in_word : from % 64 + zeros < 64
    in_word = elim (cases_lt (from % 64 + zeros) 64) [
      | inl low ↦ low
      | inr high ↦
          let none = bit_at_above (word_at plane (from / 64)) 64 (from % 64 + zeros) fits high in
          let set = ap (λ n. n % 2) (sym (shr-shr (word_at plane (from / 64)) (from % 64) zeros)) ∙ found.1 in
          absurd (omega (arith, none, set))
    ]

    pub set_here : has_bit plane (from + zeros) ≡ true
    set_here =
        let within = in_word in
        let place : from + zeros - from ≡ zeros = omega arith in
        at_here (from + zeros) (omega arith) (omega (arith, within)) ∙ ap (λ j. bit_at here j == 1) place ∙ ap (λ b. b == 1) found.1

    pub none_before : (i : ℕ) → from ≤ i → i < from + zeros → has_bit plane i ≡ false
    none_before i low before =
        let within = in_word in
        at_here i low (omega (arith, within, before)) ∙ ap (λ b. b == 1) (found.2 (i - from) (omega (arith, low, before)))

  module _ (none : here ≡ 0) where
    none_here : (i : ℕ) → from ≤ i → i < (from / 64 + 1) * 64 → has_bit plane i ≡ false
    none_here i low high = at_here i low high ∙ ap (λ w. bit_at w (i - from) == 1) none ∙ ap (λ b. b == 1) (bit_at-zero (i - from))

    pub none_until : (bit : ℕ) →
        ((j : ℕ) → j < bit → has_bit (take (length plane - (from / 64 + 1)) (drop (from / 64 + 1) plane)) j ≡ false) →
        (i : ℕ) → from ≤ i → i < (from / 64 + 1) * 64 + bit → has_bit plane i ≡ false
    none_until bit later i low before = elim (cases_lt i ((from / 64 + 1) * 64)) [
      | inl under ↦ none_here i low under
      | inr over ↦ sym (behind plane (from / 64 + 1) i over) ∙ later (i - (from / 64 + 1) * 64) (omega (arith, over, before))
    ]

    pub none_left : ((j : ℕ) → has_bit (take (length plane - (from / 64 + 1)) (drop (from / 64 + 1) plane)) j ≡ false) →
        (i : ℕ) → from ≤ i → has_bit plane i ≡ false
    none_left later i low = elim (cases_lt i ((from / 64 + 1) * 64)) [
      | inl under ↦ none_here i low under
      | inr over ↦ sym (behind plane (from / 64 + 1) i over) ∙ later (i - (from / 64 + 1) * 64)
    ]
