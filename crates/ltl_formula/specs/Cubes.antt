-- Letters and cubes. A letter is a number whose bits are truths, and a cube asks of some bits that they are set,
-- and of others that they are not.
use Rattle.std.specs.Prelude.{◌≡◌, ℕ, Bool, ◌==◌, bit_and}
use Rattle.std.specs.Int.{bit_at}

-- whether a letter has a bit: the one of value two to the power of its number
abbrev pub has_bit : ℕ → ℕ → Bool
has_bit b letter = bit_at letter b == 1

-- whether a letter has the bits that a cube asks for as it wants them
abbrev pub cube_matches : ℕ → ℕ → ℕ → Bool
cube_matches care want letter = bit_and letter care == want

-- a cube wants no bit that it does not ask for
abbrev pub IsWithin : ℕ → ℕ → Type 0
IsWithin care want = bit_and want care ≡ want
