-- Texts in pieces: one for each of the numbers below a bound, the first one and what is left; and four, one after another.
use Rattle.std.proofs.Common.{◌≡◌, ℕ, suc, ◌+◌, ◌-◌, ◌<◌, ◌≤◌, List, [], ◌++◌, ap, ◌∙◌, append_assoc, arith}
use Rattle.std.specs.Prelude.{flat_map}
use Rattle.std.specs.List.{range_with_len}

pub piece_left : (piece : ℕ → List ℕ) (count i : ℕ) → i < count → flat_map piece (range_with_len i (count - i)) ≡
    piece i ++ flat_map piece (range_with_len (i + 1) (count - (i + 1)))
piece_left piece count i below =
    let one : count - i ≡ suc (count - (i + 1)) = omega arith in ap (λ (n : ℕ). flat_map piece (range_with_len i n)) one

pub none_left : (piece : ℕ → List ℕ) (count i : ℕ) → count ≤ i → flat_map piece (range_with_len i (count - i)) ≡ []
none_left piece count i all =
    let none : count - i ≡ 0 = omega arith in ap (λ (n : ℕ). flat_map piece (range_with_len i n)) none

pub four_pieces : (out a b c d first second third : List ℕ) → first ≡ out ++ a → second ≡ first ++ b → third ≡ second ++ c →
    third ++ d ≡ out ++ (a ++ b ++ c ++ d)
four_pieces out a b c d first second third one two three =
    ap (λ (xs : List ℕ). xs ++ d) (three ∙ ap (λ (xs : List ℕ). xs ++ c) (two ∙ ap (λ (xs : List ℕ). xs ++ b) one)) ∙ joined
  where
    joined : (((out ++ a) ++ b) ++ c) ++ d ≡ out ++ (a ++ b ++ c ++ d)
    joined = simp append_assoc
