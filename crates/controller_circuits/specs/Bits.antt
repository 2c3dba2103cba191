-- Bits of numbers as lists of truths.
use Rattle.std.specs.Prelude.{ℕ, zero, suc, Bool, List, [], ◌∷◌}
use Rattle.ltl_formula.specs.Cubes.{has_bit}

-- so many bits of a number from one of them on, least first
abbrev pub bits_from : ℕ → ℕ → ℕ → List Bool
bits_from first zero number = []
bits_from first (suc count) number = has_bit first number ∷ bits_from (suc first) count number

-- so many binary digits of a number, least first
abbrev pub binary_digits : ℕ → ℕ → List Bool
binary_digits count number = bits_from 0 count number
