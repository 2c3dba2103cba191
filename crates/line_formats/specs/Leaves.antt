-- The leaves of line formats: numbers, and runs of bytes.
use Rattle.std.specs.Prelude.{ℕ, ◌^◌, nat_lt, Bool, false, ◌&&◌, List, [], ◌∷◌, take, drop, Option, Some, None, decimal, if◌then◌else◌}
use Rattle.std.specs.Char.{is_ascii_digit}
use Rattle.std.specs.List.{list_all, prefix_len}
use Rattle.tsl_text.specs.Numbers.{plain_number_in}
use Rattle.tsl_text.specs.declared.numbers.TheConstants.{MOST_DIGITS}
use Rattle.line_formats.specs.Format.{Bytes, has, Leaf, PartReader}

abbrev pub digits : Bytes
digits = (48, 57) ∷ []

abbrev pub with_rest : {V : Type 0} → Option V → List ℕ → Option (V × List ℕ)
with_rest None rest = None
with_rest (Some v) rest = Some (v, rest)

abbrev pub number_of_length : ℕ → PartReader ℕ
number_of_length len bytes = with_rest (plain_number_in (take len bytes)) (drop len bytes)

-- the longest number at the front, of at most 18 digits without leading zeros
abbrev pub first_number : PartReader ℕ
first_number bytes = number_of_length (prefix_len is_ascii_digit bytes) bytes

abbrev pub number : Leaf ℕ
number = record {
  print = decimal;
  fits = λ n. nat_lt n (10 ^ MOST_DIGITS);
  read = first_number;
  starts = digits;
  takes = digits;
  empty = false;
}

abbrev pub run_of_length : (List ℕ → Bool) → ℕ → PartReader (List ℕ)
run_of_length ok len bytes = if ok (take len bytes) then Some (take len bytes, drop len bytes) else None

-- the longest run of such bytes at the front, where it passes the test
abbrev pub first_run : Bytes → (List ℕ → Bool) → PartReader (List ℕ)
first_run set ok bytes = run_of_length ok (prefix_len (has set) bytes) bytes

abbrev pub run : Bytes → (List ℕ → Bool) → Leaf (List ℕ)
run set ok = record {
  print = λ v. v;
  fits = λ v. list_all (has set) v && ok v;
  read = first_run set ok;
  starts = set;
  takes = set;
  empty = ok [];
}
