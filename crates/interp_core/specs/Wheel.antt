-- What the symbols mean over a wheel: values below a size, and a value and a truth for each symbol and all arguments.
use Rattle.std.specs.Prelude.{ℕ, ◌+◌, ◌*◌, ◌%◌, List, Some, fold, nat_le}
use Rattle.tsl_terms.specs.Value.{Meanings}

-- the number that arguments write in base 3, up to multiples of the size
abbrev pub digits_of : ℕ → List ℕ → ℕ
digits_of size arguments = fold (λ n v. (3 * n + v) % size) 0 arguments

abbrev pub wheel : ℕ → Meanings ℕ
wheel size = record {
  function = λ f arguments. Some ((f + digits_of size arguments) % size);
  predicate = λ p arguments. Some (nat_le p (digits_of size arguments));
  initial = λ cell. Some 0;
}
