-- Numbers in decimal digits.
use Rattle.std.specs.Prelude.{
  ℕ,
  zero,
  suc,
  ◌+◌,
  ◌-◌,
  ◌*◌,
  ◌==◌,
  nat_le,
  Bool,
  false,
  cond,
  ◌&&◌,
  ℤ,
  pos,
  negsuc,
  List,
  [],
  ◌∷◌,
  length,
  fold,
  Option,
  Some,
  None,
  option_map,
  option_and_then,
}
use Rattle.std.specs.List.{list_all}
use Rattle.std.specs.Char.{is_ascii_digit}
use Rattle.tsl_text.specs.Lines.{has_bytes}
use Rattle.tsl_text.specs.declared.numbers.TheConstants.{MOST_DIGITS}

-- one ASCII digit or more
abbrev pub is_digits : List ℕ → Bool
is_digits word = has_bytes word && list_all is_ascii_digit word

-- the number that digits spell
abbrev pub value_of : List ℕ → ℕ
value_of digits = fold (λ value digit. value * 10 + (digit - 48)) 0 digits

-- the number that a word means: a run of 1 to 18 digits, with leading zeros or without, means what they spell
abbrev pub number_in : List ℕ → Option ℕ
number_in word = cond (is_digits word && nat_le (length word) MOST_DIGITS) (Some (value_of word)) None

-- whether a 0 stands before another digit
abbrev pub has_leading_zero : List ℕ → Bool
has_leading_zero [] = false
has_leading_zero (first ∷ []) = false
has_leading_zero (first ∷ second ∷ rest) = first == 48

-- the number that a word means where no leading zeros are allowed
abbrev pub plain_number_in : List ℕ → Option ℕ
plain_number_in word = cond (has_leading_zero word) None (number_in word)

-- the opposite of a number from 1 on
abbrev pub opposite : ℕ → Option ℤ
opposite zero = None
opposite (suc n) = Some (negsuc n)

-- the number that a word means where a `-` may stand before a number other than 0
abbrev pub signed_number_in : List ℕ → Option ℤ
signed_number_in [] = None
signed_number_in (byte ∷ bytes) = cond (byte == 45) (option_and_then opposite (number_in bytes)) (option_map pos (number_in (byte ∷ bytes)))
