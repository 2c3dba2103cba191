-- Which number a letter is.
use Rattle.std.specs.Prelude.{ℕ, List, [], ◌∷◌, map}
use Rattle.letter_space.specs.Letters.{with_bit}

-- a letter with the bit of each true proposition
abbrev pub with_bits : ℕ → List ℕ → ℕ
with_bits letter [] = letter
with_bits letter (n ∷ ns) = with_bits (with_bit letter n) ns

-- the letter in which these propositions are true, and no other
abbrev pub letter_of : List ℕ → ℕ
letter_of propositions = with_bits 0 propositions

abbrev pub letters_of : List (List ℕ) → List ℕ
letters_of letters = map letter_of letters
