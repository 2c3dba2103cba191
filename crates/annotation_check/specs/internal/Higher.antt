-- Internal: only private functions of this crate use these words.
-- Numbers that may be missing, in order.
use Rattle.std.specs.Prelude.{ℕ, Bool, true, nat_lt, Option, None, Some}

-- whether a number is higher than the one that a pair has, if it has one
abbrev pub is_higher : Option ℕ → ℕ → Bool
is_higher None n = true
is_higher (Some m) n = nat_lt m n
