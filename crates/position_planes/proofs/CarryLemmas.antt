-- The carries of a sum.
use Rattle.std.proofs.Common.{◌≡◌, ◌∙◌, ℕ, zero, suc, ◌+◌, ◌*◌, ◌/◌, ◌%◌, ◌^◌, ◌<◌, ◌==◌, Bool, true, false, not, ◌&&◌, ◌||◌, refl, sym}
use Rattle.std.proofs.Common.{ap, arith, bit_and, bit_or, max, w64}
use Rattle.std.specs.Int.{bit_at, bit_not}
use Rattle.std.specs.Int.Bits.{or_step}
use Rattle.std.proofs.lemmas.Nat.Bits.{bit_at_lowest, bit_at-suc, bit_at_cat_low, bit_at-zero}
use Rattle.lane_planes.proofs.BitLemmas.{and_word, or_word, not_word}
use Rattle.position_planes.specs.Carries.{word_bit, carry_to, shifted}

-- from a bit on, by what comes to it
pub carry_on : (a b : ℕ → Bool) (carried : Bool) (k i : ℕ) →
    carry_to a b carried (k + i) ≡ carry_to (λ j. a (k + j)) (λ j. b (k + j)) (carry_to a b carried k) i
carry_on a b carried k zero = let same : k + 0 ≡ k = omega arith in ap (carry_to a b carried) same
carry_on a b carried k (suc i) =
    let next : k + suc i ≡ suc (k + i) = omega arith in
    ap (carry_to a b carried) next ∙ ap (λ u. b (k + i) || (a (k + i) && u)) (carry_on a b carried k i)

-- only the bits below count
pub carry_same : (a b c d : ℕ → Bool) (carried : Bool) (n : ℕ) → ((i : ℕ) → i < n → a i ≡ c i) → ((i : ℕ) → i < n → b i ≡ d i) →
    carry_to a b carried n ≡ carry_to c d carried n
carry_same a b c d carried zero left right = refl
carry_same a b c d carried (suc n) left right =
    let before = carry_same a b c d carried n (λ i low. left i (omega (arith, low))) (λ i low. right i (omega (arith, low))) in
    λ k. right n (omega arith) k || (left n (omega arith) k && before k)

-- at the lowest bit, and what comes from there
lowest : (x y c : ℕ) → x < 2 → y < 2 → c < 2 →
    ((y == 1) || ((x == 1) && not ((max x y + y + c) % 2 == 1))) ≡ ((y == 1) || ((x == 1) && (c == 1)))
lowest zero zero c p q r = refl
lowest zero (suc zero) c p q r = refl
lowest (suc zero) zero zero p q r = refl
lowest (suc zero) zero (suc zero) p q r = refl
lowest (suc zero) (suc zero) c p q r = refl
lowest (suc zero) zero (suc (suc c)) p q r = absurd (omega (arith, r))
lowest x (suc (suc y)) c p q r = absurd (omega (arith, q))
lowest (suc (suc x)) y c p q r = absurd (omega (arith, p))

onward : (x y c : ℕ) → x < 2 → y < 2 → c < 2 → ((max x y + y + c) / 2 == 1) ≡ ((y == 1) || ((x == 1) && (c == 1)))
onward zero zero zero p q r = refl
onward zero zero (suc zero) p q r = refl
onward zero (suc zero) zero p q r = refl
onward zero (suc zero) (suc zero) p q r = refl
onward (suc zero) zero zero p q r = refl
onward (suc zero) zero (suc zero) p q r = refl
onward (suc zero) (suc zero) zero p q r = refl
onward (suc zero) (suc zero) (suc zero) p q r = refl
onward x y (suc (suc c)) p q r = absurd (omega (arith, r))
onward x (suc (suc y)) c p q r = absurd (omega (arith, q))
onward (suc (suc x)) y c p q r = absurd (omega (arith, p))

-- by what comes from the lowest bit
front : (a b : ℕ → Bool) (carried : Bool) (i : ℕ) →
    carry_to a b carried (suc i) ≡ carry_to (λ j. a (suc j)) (λ j. b (suc j)) (b 0 || (a 0 && carried)) i
front a b carried zero = refl
front a b carried (suc i) = ap (λ u. b (suc i) || (a (suc i) && u)) (front a b carried i)

-- what comes from a bit: the second has it, or the first does and the sum has not
pub sum_bits : (i x y c : ℕ) → c < 2 →
    (word_bit y i || (word_bit x i && not (word_bit (bit_or x y + y + c) i))) ≡ carry_to (word_bit x) (word_bit y) (c == 1) (suc i)
sum_bits zero x y c few =
    let step = or_step x y in
    let parity : (bit_or x y + y + c) % 2 ≡ (max (x % 2) (y % 2) + y % 2 + c) % 2 = omega (arith, step) in
    (λ k. (bit_at_lowest y k == 1) || ((bit_at_lowest x k == 1) && not (bit_at_lowest (bit_or x y + y + c) k == 1)))
    ∙ ap (λ s. (y % 2 == 1) || ((x % 2 == 1) && not (s == 1))) parity
    ∙ lowest (x % 2) (y % 2) c (omega arith) (omega arith) few
    ∙ (λ k. (sym (bit_at_lowest y) k == 1) || ((sym (bit_at_lowest x) k == 1) && (c == 1)))
sum_bits (suc i) x y c few =
    let step = or_step x y in
    let next : ℕ = (max (x % 2) (y % 2) + y % 2 + c) / 2 in
    let half : (bit_or x y + y + c) / 2 ≡ bit_or (x / 2) (y / 2) + y / 2 + next = omega (arith, step) in
    (λ k. (bit_at-suc y i k == 1) || ((bit_at-suc x i k == 1) && not (bit_at-suc (bit_or x y + y + c) i k == 1)))
    ∙ ap (λ s. word_bit (y / 2) i || (word_bit (x / 2) i && not (word_bit s i))) half
    ∙ sum_bits i (x / 2) (y / 2) next (omega (arith, few))
    ∙ ap (λ d. carry_to (word_bit (x / 2)) (word_bit (y / 2)) d (suc i)) (onward (x % 2) (y % 2) c (omega arith) (omega arith) few)
    ∙ (λ k. carry_to (λ j. sym (bit_at-suc x j) k == 1) (λ j. sym (bit_at-suc y j) k == 1)
    ((sym (bit_at_lowest y) k == 1) || ((sym (bit_at_lowest x) k == 1) && (c == 1))) (suc i))
    ∙ sym (front (word_bit x) (word_bit y) (c == 1) (suc i))

-- a sum that wraps has the bits of the sum
wrapped : (n i : ℕ) → i < 64 → word_bit (n % 2 ^ 64) i ≡ word_bit n i
wrapped n i low =
    let parts : n / 2 ^ 64 * 2 ^ 64 + n % 2 ^ 64 ≡ n = omega arith in
    ap (λ b. b == 1) (sym (bit_at_cat_low (n / 2 ^ 64) 64 (n % 2 ^ 64) i low)) ∙ ap (λ m. word_bit m i) parts

one_bit : (c : ℕ) → c < 2 → word_bit c 0 ≡ (c == 1)
one_bit zero few = refl
one_bit (suc zero) few = refl
one_bit (suc (suc c)) few = absurd (omega (arith, few))

-- a word as the code computes it
pub word_carries : (x y c i : ℕ) → c < 2 → i < 64 →
    word_bit (bit_or y (bit_and x (bit_not w64 (((bit_or x y + y) % 2 ^ 64 + c) % 2 ^ 64)))) i
    ≡ carry_to (word_bit x) (word_bit y) (word_bit c 0) (suc i)
word_carries x y c i few low =
    let sum : ℕ = ((bit_or x y + y) % 2 ^ 64 + c) % 2 ^ 64 in
    let once : sum ≡ (bit_or x y + y + c) % 2 ^ 64 = omega arith in
    or_word y (bit_and x (bit_not w64 sum)) i
    ∙ ap (λ u. word_bit y i || u) (and_word x (bit_not w64 sum) i
    ∙ ap (λ u. word_bit x i && u) (not_word sum i (omega arith) low
    ∙ ap not (ap (λ s. word_bit s i) once ∙ wrapped (bit_or x y + y + c) i low)))
    ∙ sum_bits i x y c few
    ∙ ap (λ d. carry_to (word_bit x) (word_bit y) d (suc i)) (sym (one_bit c few))

-- a word moved up by one bit, as the code computes it
or_false : (b : Bool) → (b || false) ≡ b
or_false true = refl
or_false false = refl

pub word_shifts : (x c i : ℕ) → c < 2 → i < 64 → word_bit (bit_or (x * 2 ^ 1 % 2 ^ 64) c) i ≡ shifted (word_bit x) (word_bit c 0) i
word_shifts x c zero few low =
    or_word (x * 2 ^ 1 % 2 ^ 64) c 0
    ∙ ap (λ b. (b == 1) || word_bit c 0) (bit_at_lowest (x * 2 ^ 1 % 2 ^ 64) ∙ even)
  where
    even : x * 2 ^ 1 % 2 ^ 64 % 2 ≡ 0
    even = omega arith
word_shifts x c (suc i) few low =
    or_word (x * 2 ^ 1 % 2 ^ 64) c (suc i)
    ∙ (λ k. wrapped (x * 2 ^ 1) (suc i) low k || none k)
    ∙ or_false (word_bit (x * 2 ^ 1) (suc i))
    ∙ ap (λ b. b == 1) (bit_at-suc (x * 2 ^ 1) i ∙ ap (λ m. bit_at m i) half)
  where
    half : x * 2 ^ 1 / 2 ≡ x
    half = omega arith

    gone : c / 2 ≡ 0
    gone = omega (arith, few)

    none : word_bit c (suc i) ≡ false
    none = ap (λ b. b == 1) (bit_at-suc c i ∙ ap (λ m. bit_at m i) gone ∙ bit_at-zero i)
