-- A number begins with a digit.
use Rattle.std.proofs.Common.{◌≡◌, ℕ, ◌^◌, ◌<◌, true, List, [], ◌∷◌, length, decimal, IsTrue, refl, arith}
use Rattle.std.specs.Char.{is_ascii_digit}
use Rattle.std.specs.List.{list_all}
use Rattle.std.proofs.lemmas.Bool.{and_parts}
use Rattle.std.proofs.lemmas.Fmt.{decimal_nonempty}
use Rattle.tsl_text.proofs.NumberLaws.{decimal_digits}

-- the first digit of a number, and the others
pub record FirstDigit (ds : List ℕ) : Type 0 where
  pub first : ℕ
  pub rest : List ℕ
  pub is : ds ≡ first ∷ rest
  pub digit : IsTrue (is_ascii_digit first)

pub first_digit : (n : ℕ) → n < 2 ^ 64 → FirstDigit (decimal n)
first_digit n h = by_digits (decimal n) (decimal_nonempty n h) (decimal_digits n h)
  where
    by_digits : (ds : List ℕ) → 0 < length ds → list_all is_ascii_digit ds ≡ true → FirstDigit ds
    by_digits [] some all = absurd (omega arith)
    by_digits (d ∷ ds) some all =
        record { first = d; rest = ds; is = refl; digit = (and_parts (is_ascii_digit d) (list_all is_ascii_digit ds) all).0 }
