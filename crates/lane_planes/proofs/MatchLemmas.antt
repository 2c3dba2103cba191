-- Letters that match, as the bits of a number.
use Rattle.std.proofs.Common.{◌≡◌, ◌∙◌, ℕ, zero, suc, ◌+◌, ◌-◌, ◌*◌, ◌/◌, ◌%◌, ◌^◌, ◌<◌, ◌≤◌, ◌==◌, Bool, true, false, List, [], ◌∷◌}
use Rattle.std.proofs.Common.{map, take, drop, length, get_or, replicate, refl, sym, ap, arith, bit_and, w64, cond, inl, inr}
use Rattle.std.proofs.lemmas.Bool.{cases_lt}
use Rattle.std.proofs.lemmas.List.{length-map, length-drop}
use Rattle.std.proofs.lemmas.Simd.{bitmask_splat, zip2_splat, map-map, length-chunk, mask_l-mod, bit_mask_l}
use mir.Val.{bool_byte}
use lib.Lanes.{chunk, zip2, mask_l, top}
use Rattle.std.specs.Prelude.{slice_get}
use Rattle.std.specs.Option.{option_map_or}
use Rattle.std.specs.Int.{bit_at}
use Rattle.std.proofs.lemmas.List.{get_or_past}
use Rattle.std.proofs.lemmas.Option.{slice_get_past}
use Rattle.std.proofs.lemmas.Nat.Bits.{bit_at-zero}
use Rattle.lane_planes.specs.Planes.{word_at, has_bit, is_match}

-- a whole word's letters, as the lanes compute them
pub lanes_match : (care want at : ℕ) (letters : List ℕ) → at + 64 ≤ length letters →
    mask_l (map (top 63) (zip2 (λ a b. cond (a == b) (2 ^ 64 - 1) 0) (zip2 bit_and (chunk at 64 letters) (replicate 64 care)) (replicate
    64 want))) % 2 ^ 64
    ≡ mask_l (map (is_match care want) (chunk at 64 letters))
lanes_match care want at letters room =
    let long = length-chunk at 64 letters room in
    let cared = zip2_splat bit_and (chunk at 64 letters) 64 care long in
    ap (λ xs. mask_l (map (top 63) (zip2 (λ a b. cond (a == b) (2 ^ 64 - 1) 0) xs (replicate 64 want))) % 2 ^ 64) cared
    ∙ bitmask_splat w64 (λ a b. a == b) (map (λ x. bit_and x care) (chunk at 64 letters)) 64 want
    (length-map (chunk at 64 letters) (λ x. bit_and x care) ∙ long) (omega arith)
    ∙ ap mask_l (map-map (λ x. x == want) (λ x. bit_and x care) (chunk at 64 letters))

-- one letter more at the front
pub drop_before : (xs : List ℕ) (n : ℕ) → n < length xs → drop n xs ≡ get_or xs n 0 ∷ drop (suc n) xs
drop_before [] n within = absurd (omega (arith, within))
drop_before (x ∷ xs) zero within = refl
drop_before (x ∷ xs) (suc n) within = drop_before xs n (omega (arith, within))

-- one letter more, from the last one on
pub one_more : (care want n : ℕ) (letters : List ℕ) → n < length letters →
    mask_l (map (is_match care want) (drop n letters))
    ≡ cond (is_match care want (get_or letters n 0)) 1 0 + 2 * mask_l (map (is_match care want) (drop (suc n) letters))
one_more care want n letters within = ap (λ xs. mask_l (map (is_match care want) xs)) (drop_before letters n within)

fits_at : (p : ℕ → Bool) (xs : List ℕ) → length xs ≤ 64 → mask_l (map p xs) < 2 ^ 64
fits_at p xs few = omega (arith, mask_l-mod (map p xs) 64 (omega (arith, length-map xs p, few)))

one_if : (b : Bool) → bool_byte b ≡ cond b 1 0
one_if true = refl
one_if false = refl

-- what the bits from the last letter on become with the letter before them, and that they have room
pub grown : (care want left : ℕ) (letters : List ℕ) → length letters < 64 → left ≤ length letters → 0 < left →
    (bits b : ℕ) → bits ≡ mask_l (map (is_match care want) (drop left letters)) →
    b ≡ bool_byte (is_match care want (get_or letters (left - 1) 0)) →
    (2 * bits + b ≡ mask_l (map (is_match care want) (drop (left - 1) letters))) × (2 * bits + b < 2 ^ 64)
grown care want left letters few within more bits b are is =
    let n : ℕ = left - 1 in
    let next : suc n ≡ left = omega (arith, more) in
    let here = one_more care want n letters (omega (arith, within, more)) in
    let counted : cond (is_match care want (get_or letters n 0)) 1 0 ≡ b = sym (is ∙ one_if (is_match care want (get_or letters n 0))) in
    let rest : mask_l (map (is_match care want) (drop (suc n) letters)) ≡ bits =
    ap (λ m. mask_l (map (is_match care want) (drop m letters))) next ∙ sym are in
    let whole : 2 * bits + b ≡ mask_l (map (is_match care want) (drop n letters)) = omega (arith, here, counted, rest) in
    let room = fits_at (is_match care want) (drop n letters) (omega (arith, length-drop n letters, few)) in
    (whole, omega (arith, whole, room))

-- the letters that are left, as a chunk of the whole
pub rest_is : (from : ℕ) (letters : List ℕ) → length letters - from < 64 →
    take (length letters - from) (drop from letters) ≡ chunk from 64 letters
rest_is from letters few =
    take_all (length letters - from) (drop from letters) (omega (arith, length-drop from letters))
    ∙ sym (take_all 64 (drop from letters) (omega (arith, length-drop from letters, few)))
  where
    take_all : (n : ℕ) (xs : List ℕ) → length xs ≤ n → take n xs ≡ xs
    take_all zero [] room = refl
    take_all zero (x ∷ xs) room = absurd (omega (arith, room))
    take_all (suc n) [] room = refl
    take_all (suc n) (x ∷ xs) room = ap (λ ys. x ∷ ys) (take_all n xs (omega (arith, room)))

-- the test of a letter, in a list of tests
mapped_at : (p : ℕ → Bool) (xs : List ℕ) (j : ℕ) → get_or (map p xs) j false ≡ option_map_or p (slice_get xs j) false
mapped_at p [] zero = refl
mapped_at p [] (suc j) = refl
mapped_at p (x ∷ xs) zero = refl
mapped_at p (x ∷ xs) (suc j) = mapped_at p xs j

taken_at : (n j : ℕ) (xs : List ℕ) → j < n → slice_get (take n xs) j ≡ slice_get xs j
taken_at zero j xs within = absurd (omega (arith, within))
taken_at (suc n) zero [] within = refl
taken_at (suc n) (suc j) [] within = refl
taken_at (suc n) zero (x ∷ xs) within = refl
taken_at (suc n) (suc j) (x ∷ xs) within = taken_at n j xs (omega (arith, within))

dropped_at : (from j : ℕ) (xs : List ℕ) → slice_get (drop from xs) j ≡ slice_get xs (from + j)
dropped_at zero j xs = let same : j ≡ 0 + j = omega arith in ap (slice_get xs) same
dropped_at (suc from) zero [] = refl
dropped_at (suc from) (suc j) [] = refl
dropped_at (suc from) j (x ∷ xs) =
    let more : suc (from + j) ≡ suc from + j = omega arith in dropped_at from j xs ∙ ap (slice_get (x ∷ xs)) more

bit_if : (b : Bool) → (cond b 1 0 == 1) ≡ b
bit_if true = refl
bit_if false = refl

pub match_bits : (care want : ℕ) (letters out : List ℕ) → length out ≡ (length letters + 63) / 64 →
    ((k : ℕ) → k < length out → word_at out k ≡ mask_l (map (is_match care want) (chunk (k * 64) 64 letters))) →
    (i : ℕ) → has_bit out i ≡ option_map_or (is_match care want) (slice_get letters i) false
match_bits care want letters out long words i = elim (cases_lt (i / 64) (length out)) [
  | inl within ↦
      let place : i / 64 * 64 + i % 64 ≡ i = omega arith in
      let test : ℕ → Bool = is_match care want in
      let row : List ℕ = chunk (i / 64 * 64) 64 letters in
      ap (λ w. bit_at w (i % 64) == 1) (words (i / 64) within)
      ∙ ap (λ b. b == 1) (bit_mask_l (map test row) (i % 64))
      ∙ bit_if (get_or (map test row) (i % 64) false)
      ∙ mapped_at test row (i % 64)
      ∙ ap (λ found. option_map_or test found false)
      (taken_at 64 (i % 64) (drop (i / 64 * 64) letters) (omega arith) ∙ dropped_at (i / 64 * 64) (i % 64) letters
      ∙ ap (slice_get letters) place)
  | inr over ↦
      ap (λ w. bit_at w (i % 64) == 1) (get_or_past out (i / 64) 0 over) ∙ ap (λ b. b == 1) (bit_at-zero (i % 64))
      ∙ sym (ap (λ found. option_map_or (is_match care want) found false) (slice_get_past letters i (omega (arith, over, long))))
]
