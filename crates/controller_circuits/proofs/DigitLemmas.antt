-- Digits of numbers as lists of truths.
use Rattle.std.proofs.Common.{◌≡◌, ◌∙◌, ℕ, zero, suc, ◌+◌, ◌-◌, ◌*◌, ◌/◌, ◌^◌, ◌<◌, ◌≤◌, ◌==◌, Bool, false, List, [], ◌∷◌, ◌++◌, length, get_or}
use Rattle.std.proofs.Common.{Some, slice_get, refl, sym, ap, arith}
use Rattle.std.specs.Int.{bit_at}
use Rattle.std.proofs.Math.Nat.{pow-suc, div-lt_iff_lt-mul, div-div-eq-div-mul}
use Rattle.std.proofs.lemmas.Nat.{pow_pos, pow-add}
use Rattle.std.proofs.lemmas.Nat.Bits.{bit_at_cat_low, bit_at_cat_high}
use Rattle.ltl_formula.specs.Cubes.{has_bit}
use Rattle.controller_circuits.specs.Bits.{bits_from}

pub length-bits_from : (first count number : ℕ) → length (bits_from first count number) ≡ count
length-bits_from first zero number = refl
length-bits_from first (suc count) number = ap suc (length-bits_from (suc first) count number)

pub digit_at : (first count number k : ℕ) → k < count → get_or (bits_from first count number) k false ≡ has_bit (first + k) number
digit_at first zero number k within = absurd (omega arith)
digit_at first (suc count) number zero within = let e : first ≡ first + 0 = omega arith in ap (λ b. has_bit b number) e
digit_at first (suc count) number (suc k) within =
    let e : suc first + k ≡ first + suc k = omega arith in
    digit_at (suc first) count number k (omega arith) ∙ ap (λ b. has_bit b number) e

pub bit_there : (first count number k : ℕ) → k < count → slice_get (bits_from first count number) k ≡ Some (has_bit (first + k) number)
bit_there first zero number k within = absurd (omega arith)
bit_there first (suc count) number zero within = let e : first ≡ first + 0 = omega arith in ap (λ b. Some (has_bit b number)) e
bit_there first (suc count) number (suc k) within =
    let e : suc first + k ≡ first + suc k = omega arith in
    bit_there (suc first) count number k (omega arith) ∙ ap (λ b. Some (has_bit b number)) e

-- a list that has the bits
pub are_bits : (first : ℕ) (bs : List Bool) (count number : ℕ) → length bs ≡ count
    → ((k : ℕ) (b : Bool) → slice_get bs k ≡ Some b → b ≡ has_bit (first + k) number) → bs ≡ bits_from first count number
are_bits first [] zero number e is = refl
are_bits first [] (suc count) number e is = absurd (omega (arith, e))
are_bits first (b ∷ bs) zero number e is = absurd (omega (arith, e))
are_bits first (b ∷ bs) (suc count) number e is =
    let here : first + 0 ≡ first = omega arith in
    let head : b ≡ has_bit first number = is 0 b refl ∙ ap (λ n. has_bit n number) here in
    let rest : bs ≡ bits_from (suc first) count number = are_bits (suc first) bs count number (omega (arith, e))
    (λ k x at. let next : first + suc k ≡ suc first + k = omega arith in is (suc k) x at ∙ ap (λ n. has_bit n number) next) in
    λ i. head i ∷ rest i

-- digits of a number that is joined of two
pub bits_joined : (low high base : ℕ) (n m : ℕ) → m < 2 ^ base → (first : ℕ) → first + low ≡ base
    → bits_from first (low + high) (n * 2 ^ base + m) ≡ bits_from first low m ++ bits_from 0 high n
bits_joined (suc low) high base n m below first e =
    let head : has_bit first (n * 2 ^ base + m) ≡ has_bit first m = ap (λ x. x == 1) (bit_at_cat_low n base m first (omega (arith, e))) in
    let rest = bits_joined low high base n m below (suc first) (omega (arith, e)) in
    let count : suc low + high ≡ suc (low + high) = omega arith in
    ap (λ c. bits_from first c (n * 2 ^ base + m)) count ∙ (λ i. head i ∷ rest i)
bits_joined zero high base n m below first e =
    let same : first ≡ base + 0 = omega (arith, e) in
    let count : 0 + high ≡ high = omega arith in
    ap (λ c. bits_from first c (n * 2 ^ base + m)) count ∙ ap (λ f. bits_from f high (n * 2 ^ base + m)) same ∙ above high 0
  where
    above : (high k : ℕ) → bits_from (base + k) high (n * 2 ^ base + m) ≡ bits_from k high n
    above zero k = refl
    above (suc high) k =
        let place : base + k - base ≡ k = omega arith in
        let head : has_bit (base + k) (n * 2 ^ base + m) ≡ has_bit k n =
        ap (λ x. x == 1) (bit_at_cat_high n base m (base + k) below (omega arith) ∙ ap (bit_at n) place) in
        let next : suc (base + k) ≡ base + suc k = omega arith in
        let rest = ap (λ f. bits_from f high (n * 2 ^ base + m)) next ∙ above high (suc k) in
        λ i. head i ∷ rest i

-- halves of places
pub half_again : (i k : ℕ) → i / 2 ^ (k + 1) ≡ i / 2 ^ k / 2
half_again i k =
    let p : 2 ^ (k + 1) ≡ 2 ^ k * 2 = (let e : k + 1 ≡ suc k = omega arith in ap (λ n. 2 ^ n) e ∙ pow-suc 2 k) in
    ap (λ d. i / d) p ∙ sym (div-div-eq-div-mul i (2 ^ k) 2)

pub place_below : (i n k : ℕ) → k ≤ n → i < 2 ^ n → i / 2 ^ k < 2 ^ (n - k)
place_below i n k within below =
    let p : 2 ^ n ≡ 2 ^ (n - k) * 2 ^ k = (let e : n ≡ n - k + k = omega arith in ap (λ m. 2 ^ m) e ∙ pow-add 2 (n - k) k) in
    (div-lt_iff_lt-mul (pow_pos k)).1 (omega (arith, below, p))

pub power_halved : (n k : ℕ) → k < n → 2 ^ (n - k) ≡ 2 ^ (n - (k + 1)) * 2
power_halved n k within = let e : n - k ≡ suc (n - (k + 1)) = omega arith in ap (λ m. 2 ^ m) e ∙ pow-suc 2 (n - (k + 1))
