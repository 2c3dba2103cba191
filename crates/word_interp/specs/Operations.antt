-- What operations and tests give on machine words. With b bits the words are the numbers below the domain 2 ^ b, and
-- results are taken modulo it.
use Rattle.std.specs.Prelude.{ℕ, ◌+◌, ◌-◌, ◌*◌, ◌/◌, ◌%◌, ◌==◌, Bool, not, List, [], ◌∷◌, map, flat_map, nat_lt, nat_le, if◌then◌else◌}
use Rattle.std.specs.Prelude.{Option, Some, None}
use Rattle.std.specs.Int.Bits.{bit_and, bit_or, bit_xor}
use Rattle.base_library.specs.Numbers.{numbers_from}
use Rattle.table_syntax.specs.declared.words.Operation.{Operation as WordOperation}
use Rattle.table_syntax.specs.declared.words.Operation.TheVariants.{Add, Sub, Mul, And, Or, Xor, Not, Inc, Dec, Shl, Shr, Const}
use Rattle.table_syntax.specs.declared.words.Test.{Test as WordTest}
use Rattle.table_syntax.specs.declared.words.Test.TheVariants.{Less, AtMost, Zero, Odd, Nonzero}
use Rattle.table_syntax.specs.declared.words.Given.{Given}
use Rattle.table_syntax.specs.declared.words.Given.TheVariants.{Operation, Test, Value}

-- a function of no word, of one or of two
pub data WordFunction : Type 0 where
  constant : ℕ → WordFunction
  unary : (ℕ → ℕ) → WordFunction
  binary : (ℕ → ℕ → ℕ) → WordFunction

-- how many words it takes
abbrev pub arity_of : WordFunction → ℕ
arity_of (constant n) = 0
arity_of (unary f) = 1
arity_of (binary f) = 2

-- truths as entries of a table
abbrev pub entry_for : Bool → ℕ
entry_for holds = if holds then 1 else 0

abbrev pub test_of : WordTest → WordFunction
test_of Less = binary (λ x y. entry_for (nat_lt x y))
test_of AtMost = binary (λ x y. entry_for (nat_le x y))
test_of Zero = unary (λ x. entry_for (x == 0))
test_of Odd = unary (λ x. entry_for (x % 2 == 1))
test_of Nonzero = unary (λ x. entry_for (not (x == 0)))

module _ (domain : ℕ) where
  abbrev pub operation_of : WordOperation → WordFunction
  operation_of Add = binary (λ x y. (x + y) % domain)
  operation_of Sub = binary (λ x y. (x + domain - y) % domain)
  operation_of Mul = binary (λ x y. x * y % domain)
  operation_of And = binary (λ x y. bit_and x y)
  operation_of Or = binary (λ x y. bit_or x y)
  operation_of Xor = binary (λ x y. bit_xor x y)
  -- the greatest word has every bit
  operation_of Not = unary (λ x. bit_xor x (domain - 1))
  operation_of Inc = unary (λ x. (x + 1) % domain)
  operation_of Dec = unary (λ x. (x + domain - 1) % domain)
  operation_of Shl = unary (λ x. 2 * x % domain)
  operation_of Shr = unary (λ x. x / 2)
  operation_of (Const n) = constant (n % domain)

  -- the values of a function in the order of a table: the last word changes first
  abbrev pub entries_of : WordFunction → List ℕ
  entries_of (constant n) = n ∷ []
  entries_of (unary f) = map f (numbers_from 0 domain)
  entries_of (binary f) = flat_map (λ x. map (f x) (numbers_from 0 domain)) (numbers_from 0 domain)

  -- ---- what is given for a name

  -- how many arguments it takes; a cell takes none
  abbrev pub arity_given : Given → ℕ
  arity_given (Operation o) = arity_of (operation_of o)
  arity_given (Test t) = arity_of (test_of t)
  arity_given (Value n) = 0

  -- its table; what is no operation and no test has an empty one
  abbrev pub table_given : Option Given → List ℕ
  table_given (Some (Operation o)) = entries_of (operation_of o)
  table_given (Some (Test t)) = entries_of (test_of t)
  table_given (Some (Value n)) = []
  table_given None = []

  -- the value of a cell at first
  abbrev pub value_given : Option Given → ℕ
  value_given (Some (Value n)) = n % domain
  value_given (Some (Operation o)) = 0
  value_given (Some (Test t)) = 0
  value_given None = 0

-- the number that is written in it
abbrev pub number_in : Given → Option ℕ
number_in (Operation (Const n)) = Some n
number_in (Value n) = Some n
number_in _ = None
