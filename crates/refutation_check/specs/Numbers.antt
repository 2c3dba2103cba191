-- Numbers that end lists.
use Rattle.std.specs.Prelude.{zero, suc, Bool, true, false, ℤ, pos, negsuc}

-- whether the number is 0, which ends a list
abbrev pub is_zero : ℤ → Bool
is_zero (pos zero) = true
is_zero (pos (suc n)) = false
is_zero (negsuc n) = false
