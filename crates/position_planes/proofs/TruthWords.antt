-- Words that are made of truths, one by one, and planes that are made of such words.
use mir.Val.{bool_byte}
use Rattle.std.proofs.Common.{◌≡◌, ◌∙◌, ℕ, suc, ◌+◌, ◌-◌, ◌*◌, ◌/◌, ◌%◌, ◌^◌, ◌<◌, ◌≤◌, ◌==◌, Bool, true, false, List, [], ◌∷◌, ◌++◌}
use Rattle.std.proofs.Common.{length, refl, sym, ap, subst, arith, inl, inr}
use Rattle.std.specs.Prelude.{slice_index_or, if◌then◌else◌}
use Rattle.std.proofs.lemmas.Bool.{cases_lt}
use Rattle.std.proofs.lemmas.List.{get_or_append_left}
use Rattle.std.proofs.Math.Seq.{get_or-append_seam}
use Rattle.std.proofs.Math.Pow.{pow_mono}
use native.Mathlib.Numerals.{unary_clauses}
use Rattle.std.proofs.lemmas.Nat.Bits.{bit_at_lowest, bit_at-suc}
use Rattle.lane_planes.specs.Planes.{word_at, has_bit}
use Rattle.position_planes.specs.Positions.{bit_of}
use Rattle.position_planes.specs.Carries.{word_bit}

-- a truth as a bit
abbrev pub bit_for : Bool → ℕ
bit_for holds = if holds then 1 else 0

pub byte_is : (b : Bool) → bool_byte b ≡ bit_for b
byte_is true = refl
byte_is false = refl

is_bit : (b : Bool) → (bit_for b == 1) ≡ b
is_bit true = refl
is_bit false = refl

bit_few : (b : Bool) → bit_for b < 2
bit_few true = omega arith
bit_few false = omega arith

lowest : (word : ℕ) (b : Bool) → word_bit (2 * word + bit_for b) 0 ≡ b
lowest word b =
    let few = bit_few b in
    let left : (2 * word + bit_for b) % 2 ≡ bit_for b = omega (arith, few) in
    ap (λ n. n == 1) (bit_at_lowest (2 * word + bit_for b) ∙ left) ∙ is_bit b

moved : (word j : ℕ) (b : Bool) → word_bit (2 * word + bit_for b) (suc j) ≡ word_bit word j
moved word j b =
    let few = bit_few b in
    let half : (2 * word + bit_for b) / 2 ≡ word = omega (arith, few) in
    ap (λ n. n == 1) (bit_at-suc (2 * word + bit_for b) j) ∙ ap (λ w. word_bit w j) half

-- the word of the truths from `start` on and before `i`, the last one at the lowest bit
pub record IsWordOf (truths : List Bool) (start i word : ℕ) : Type 0 where
  pub begun : start ≤ i
  pub fits : word < 2 ^ (i - start)
  pub bits : (q : ℕ) → start ≤ q → q < i → word_bit word (i - suc q) ≡ slice_index_or truths q false

pub no_word : (truths : List Bool) (start : ℕ) → IsWordOf truths start start 0
no_word truths start = record {
  begun = omega arith;
  fits = (let nothing : start - start ≡ 0 = omega arith in subst (λ k. 0 < 2 ^ k) (sym nothing) (omega arith));
  bits = λ q from under. absurd (omega (arith, from, under));
}

pub has_room : (truths : List Bool) (start i end word : ℕ) → i < end → end - start ≤ 64 → IsWordOf truths start i word → 2 * word + 1 < 2 ^ 64
has_room truths start i end word under few is =
    let begun = is.begun in
    let fits = is.fits in
    let most : 2 ^ (i - start) ≤ 2 ^ 63 = pow_mono {i = i - start} {j = 63} (omega (arith, under, few, begun)) in
    omega (arith, fits, most)

pub one_more : (truths : List Bool) (start i word : ℕ) (b : Bool) → b ≡ slice_index_or truths i false → IsWordOf truths start i word →
    IsWordOf truths start (i + 1) (2 * word + bit_for b)
one_more truths start i word b is before = record {
  begun = (let begun = before.begun in omega (arith, begun));
  fits =
      (let begun = before.begun in let fits = before.fits in let few = bit_few b in
      let more : i + 1 - start ≡ suc (i - start) = omega (arith, begun) in
      let twice : 2 ^ suc (i - start) ≡ 2 ^ (i - start) * 2 = simp unary_clauses refl in
      subst (λ k. 2 * word + bit_for b < 2 ^ k) (sym more) (omega (arith, fits, few, twice)));
  bits = λ q from under. elim (cases_lt q i) [
    | inl low ↦
        let place : i + 1 - suc q ≡ suc (i - suc q) = omega (arith, low) in
        ap (word_bit (2 * word + bit_for b)) place ∙ moved word (i - suc q) b ∙ before.bits q from low
    | inr high ↦
        let same : q ≡ i = omega (arith, high, under) in
        let place : i + 1 - suc q ≡ 0 = omega (arith, high) in
        ap (word_bit (2 * word + bit_for b)) place ∙ lowest word b ∙ is ∙ ap (λ k. slice_index_or truths k false) (sym same)
  ];
}

-- what a word says of its bits
pub word_said : (truths : List Bool) (place start end word : ℕ) → 64 * place ≤ length truths → end ≡ length truths - place * 64 →
    start ≡ end - 64 → IsWordOf truths start end word → (j : ℕ) → j < 64 → place * 64 + j < length truths →
    word_bit word j ≡ slice_index_or truths (bit_of (length truths) (place * 64 + j)) false
word_said truths place start end word within ends starts is j low there =
    let q : ℕ = bit_of (length truths) (place * 64 + j) in
    let from : start ≤ q = omega (arith, within, ends, starts, low, there) in
    let under : q < end = omega (arith, within, ends, there) in
    let bit : j ≡ end - suc q = omega (arith, within, ends, there) in
    ap (word_bit word) bit ∙ is.bits q from under

-- so many words of a plane
pub record HasWords (truths : List Bool) (plane : List ℕ) (place : ℕ) : Type 0 where
  pub many : length plane ≡ place
  pub bits : (q : ℕ) → q < place * 64 → q < length truths → has_bit plane q ≡ slice_index_or truths (bit_of (length truths) q) false

pub word_more : (truths : List Bool) (old new : List ℕ) (place word : ℕ) → new ≡ old ++ word ∷ [] →
    ((j : ℕ) → j < 64 → place * 64 + j < length truths →
    word_bit word j ≡ slice_index_or truths (bit_of (length truths) (place * 64 + j)) false) →
    length new ≡ place + 1 → HasWords truths old place → HasWords truths new (place + 1)
word_more truths old new place word pushed said many before = record {
  many = many;
  bits = λ q under there. elim (cases_lt q (place * 64)) [
    | inl low ↦
        let count = before.many in
        ap (λ w. word_bit w (q % 64)) (ap (λ ws. word_at ws (q / 64)) pushed
        ∙ get_or_append_left old (word ∷ []) 0 (q / 64) (omega (arith, low, count)))
        ∙ before.bits q low there
    | inr high ↦
        let here : q / 64 ≡ length old = (let count = before.many in omega (arith, high, under, count)) in
        let whole : place * 64 + q % 64 ≡ q = omega (arith, high, under) in
        ap (λ w. word_bit w (q % 64)) ((λ k. word_at (pushed k) (here k)) ∙ get_or-append_seam old word [] 0)
        ∙ said (q % 64) (omega arith) (omega (arith, whole, there))
        ∙ ap (λ n. slice_index_or truths (bit_of (length truths) n) false) whole
  ];
}
