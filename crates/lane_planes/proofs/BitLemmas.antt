-- From words of a plane to its bits.
use Rattle.std.proofs.Common.{◌≡◌, ◌∙◌, ℕ, zero, suc, ◌+◌, ◌-◌, ◌*◌, ◌/◌, ◌%◌, ◌^◌, ◌<◌, ◌≤◌, ◌==◌, true, false, not, ◌&&◌, ◌||◌, List}
use Rattle.std.proofs.Common.{length, refl, sym, ap, ap₂, arith, bit_and, bit_or, min, max, inl, inr, Fits, w64}
use Rattle.std.specs.Prelude.{bit_xor}
use Rattle.std.specs.Int.{bit_at, trailing_zeros}
use Rattle.std.proofs.lemmas.Bool.{cases_lt}
use Rattle.std.proofs.lemmas.List.{get_or_past}
use Rattle.std.proofs.lemmas.Nat.{xor_lt}
use Rattle.std.proofs.lemmas.Nat.Bits.{bit_at_and, bit_at_or, bit_at_xor, bit_at_not, bit_at-lt, bit_at-zero, bit_at-trailing_zeros}
use Rattle.lane_planes.specs.Planes.{word_at, has_bit, same_bit}
use Rattle.lane_planes.specs.internal.Parts.{IsJoined, turned, agreed}

-- facts of one bit
and_one : (a b : ℕ) → a < 2 → b < 2 → (min a b == 1) ≡ ((a == 1) && (b == 1))
and_one zero zero low other = refl
and_one zero (suc zero) low other = refl
and_one zero (suc (suc b)) low other = absurd (omega (arith, other))
and_one (suc zero) zero low other = refl
and_one (suc zero) (suc zero) low other = refl
and_one (suc zero) (suc (suc b)) low other = absurd (omega (arith, other))
and_one (suc (suc a)) b low other = absurd (omega (arith, low))

or_one : (a b : ℕ) → a < 2 → b < 2 → (max a b == 1) ≡ ((a == 1) || (b == 1))
or_one zero zero low other = refl
or_one zero (suc zero) low other = refl
or_one zero (suc (suc b)) low other = absurd (omega (arith, other))
or_one (suc zero) zero low other = refl
or_one (suc zero) (suc zero) low other = refl
or_one (suc zero) (suc (suc b)) low other = absurd (omega (arith, other))
or_one (suc (suc a)) b low other = absurd (omega (arith, low))

not_one : (a : ℕ) → a < 2 → (1 - a == 1) ≡ not (a == 1)
not_one zero low = refl
not_one (suc zero) low = refl
not_one (suc (suc a)) low = absurd (omega (arith, low))

same_one : (a b : ℕ) → a < 2 → b < 2 → (1 - (a + b) % 2 == 1) ≡ same_bit (a == 1) (b == 1)
same_one zero zero low other = refl
same_one zero (suc zero) low other = refl
same_one zero (suc (suc b)) low other = absurd (omega (arith, other))
same_one (suc zero) zero low other = refl
same_one (suc zero) (suc zero) low other = refl
same_one (suc zero) (suc (suc b)) low other = absurd (omega (arith, other))
same_one (suc (suc a)) b low other = absurd (omega (arith, low))

pub and_word : (m n j : ℕ) → (bit_at (bit_and m n) j == 1) ≡ ((bit_at m j == 1) && (bit_at n j == 1))
and_word m n j = ap (λ b. b == 1) (bit_at_and m n j) ∙ and_one (bit_at m j) (bit_at n j) (bit_at-lt m j) (bit_at-lt n j)

pub or_word : (m n j : ℕ) → (bit_at (bit_or m n) j == 1) ≡ ((bit_at m j == 1) || (bit_at n j == 1))
or_word m n j = ap (λ b. b == 1) (bit_at_or m n j) ∙ or_one (bit_at m j) (bit_at n j) (bit_at-lt m j) (bit_at-lt n j)

pub not_word : (n j : ℕ) → n < 2 ^ 64 → j < 64 → (bit_at (turned n) j == 1) ≡ not (bit_at n j == 1)
not_word n j fits within = ap (λ b. b == 1) (bit_at_not w64 n j fits within) ∙ not_one (bit_at n j) (bit_at-lt n j)

pub same_word : (m n j : ℕ) → bit_xor m n < 2 ^ 64 → j < 64 → (bit_at (agreed m n) j == 1) ≡ same_bit (bit_at m j == 1) (bit_at n j == 1)
same_word m n j fits within =
    ap (λ b. b == 1) (bit_at_not w64 (bit_xor m n) j fits within ∙ ap (λ b. 1 - b) (bit_at_xor m n j))
    ∙ same_one (bit_at m j) (bit_at n j) (bit_at-lt m j) (bit_at-lt n j)

-- every word past the last one is 0
past : (plane : List ℕ) (k : ℕ) → length plane ≤ k → word_at plane k ≡ 0
past plane k over = get_or_past plane k 0 over

-- where words are put together up to the last one, so are bits
pub words_joined : (op : ℕ → ℕ → ℕ) (n : ℕ) (old other new : List ℕ) → length old ≤ n → IsJoined op 0 n old other new →
    (k : ℕ) → k < length old → word_at new k ≡ op (word_at old k) (word_at other k)
words_joined op n old other new all joined k within = joined.inside k (omega arith) (omega (arith, all, within))

pub all_words : (op : ℕ → ℕ → ℕ) → op 0 0 ≡ 0 → (n : ℕ) (old other new : List ℕ) → length old ≡ n → length old ≡ length other →
    IsJoined op 0 n old other new → (k : ℕ) → word_at new k ≡ op (word_at old k) (word_at other k)
all_words op none n old other new all beside joined k = elim (cases_lt k n) [
  | inl within ↦ joined.inside k (omega arith) within
  | inr over ↦ joined.above k over ∙ past old k (omega (arith, all, over)) ∙ sym none
      ∙ sym (ap₂ op (past old k (omega (arith, all, over))) (past other k (omega (arith, all, beside, over))))
]

pub and_bits : (n : ℕ) (old other new : List ℕ) → length old ≡ n → length old ≡ length other → IsJoined bit_and 0 n old other new →
    (i : ℕ) → has_bit new i ≡ (has_bit old i && has_bit other i)
and_bits n old other new all beside joined i =
    ap (λ w. bit_at w (i % 64) == 1) (all_words bit_and refl n old other new all beside joined (i / 64))
    ∙ and_word (word_at old (i / 64)) (word_at other (i / 64)) (i % 64)

pub or_bits : (n : ℕ) (old other new : List ℕ) → length old ≡ n → length old ≡ length other → IsJoined bit_or 0 n old other new →
    (i : ℕ) → has_bit new i ≡ (has_bit old i || has_bit other i)
or_bits n old other new all beside joined i =
    ap (λ w. bit_at w (i % 64) == 1) (all_words bit_or refl n old other new all beside joined (i / 64))
    ∙ or_word (word_at old (i / 64)) (word_at other (i / 64)) (i % 64)

-- the place of a bit
pub in_word : (i n : ℕ) → i < 64 * n → i / 64 < n
in_word i n within = omega (arith, within)

pub not_bits : (n : ℕ) (old new : List ℕ) → length old ≡ n → ((k : ℕ) → Fits w64 (word_at old k)) →
    IsJoined (λ a b. turned a) 0 n old old new →
    (i : ℕ) → i < 64 * length old → has_bit new i ≡ not (has_bit old i)
not_bits n old new all fit joined i within =
    ap (λ w. bit_at w (i % 64) == 1) (joined.inside (i / 64) (omega arith) (omega (arith, all, in_word i (length old) within)))
    ∙ not_word (word_at old (i / 64)) (i % 64) (fit (i / 64)).fits (omega arith)

pub same_bits : (n : ℕ) (old other new : List ℕ) → length old ≡ n → ((k : ℕ) → Fits w64 (word_at old k)) → ((k : ℕ) →
    Fits w64 (word_at other k)) →
    IsJoined agreed 0 n old other new → (i : ℕ) → i < 64 * length old → has_bit new i ≡ same_bit (has_bit old i) (has_bit other i)
same_bits n old other new all fit fits joined i within =
    ap (λ w. bit_at w (i % 64) == 1) (joined.inside (i / 64) (omega arith) (omega (arith, all, in_word i (length old) within)))
    ∙ same_word (word_at old (i / 64)) (word_at other (i / 64)) (i % 64)
    (xor_lt 64 (word_at old (i / 64)) (word_at other (i / 64)) (fit (i / 64)).fits (fits (i / 64)).fits) (omega arith)

-- a plane of words that are 0 has no bit, and a bit of a word is a bit of the plane
pub no_bits : (plane : List ℕ) (n : ℕ) → length plane ≤ n → ((k : ℕ) → k < n → word_at plane k ≡ 0) → (i : ℕ) → has_bit plane i ≡ false
no_bits plane n all none i = ap (λ w. bit_at w (i % 64) == 1) (word (i / 64)) ∙ ap (λ b. b == 1) (bit_at-zero (i % 64))
  where
    word : (k : ℕ) → word_at plane k ≡ 0
    word k = elim (cases_lt k n) [
      | inl within ↦ none k within
      | inr over ↦ past plane k (omega (arith, all, over))
    ]

pub bit_of : (plane : List ℕ) (k j : ℕ) → j < 64 → has_bit plane (k * 64 + j) ≡ (bit_at (word_at plane k) j == 1)
bit_of plane k j within =
    let at : (k * 64 + j) / 64 ≡ k = omega (arith, within) in
    let on : (k * 64 + j) % 64 ≡ j = omega (arith, within) in
    λ i. bit_at (word_at plane (at i)) (on i) == 1

-- the least bit of the first word that is not 0
pub first_is : (plane : List ℕ) (k n : ℕ) → n ≡ trailing_zeros w64 (word_at plane k) → 0 < word_at plane k → word_at plane k < 2 ^ 64 →
    ((m : ℕ) → m < k → word_at plane m ≡ 0) → (has_bit plane (k * 64 + n) ≡ true) × ((j : ℕ) → j < k * 64 + n → has_bit plane j ≡ false)
first_is plane k n is some fits none = (
  bit_of plane k n low ∙ ap (λ b. b == 1) (ap (bit_at (word_at plane k)) is ∙ found.1),
  λ j before. elim (cases_lt (j / 64) k) [
    | inl under ↦ ap (λ w. bit_at w (j % 64) == 1) (none (j / 64) under) ∙ ap (λ b. b == 1) (bit_at-zero (j % 64))
    | inr here ↦
        let same : j / 64 ≡ k = omega (arith, before, here, low) in
        ap (λ m. bit_at (word_at plane m) (j % 64) == 1) same ∙ ap (λ b. b == 1) (found.2 (j % 64) (omega (arith, before, same, is)))
  ],
)
  where
    found : (trailing_zeros w64 (word_at plane k) < 64) × (bit_at (word_at plane k) (trailing_zeros w64 (word_at plane k)) ≡ 1)
        × ((i : ℕ) → i < trailing_zeros w64 (word_at plane k) → bit_at (word_at plane k) i ≡ 0)
    found = bit_at-trailing_zeros w64 (word_at plane k) some fits

    low : n < 64
    low = omega (arith, is, found.0)
