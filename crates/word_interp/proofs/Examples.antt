-- The tables of words of two bits, which compute.
use Rattle.std.specs.Prelude.{◌≡◌, [], ◌∷◌, refl}
use Rattle.table_syntax.specs.declared.words.Operation.TheVariants as operation
use Rattle.table_syntax.specs.declared.words.Test.TheVariants as test
use Rattle.word_interp.specs.Operations.{entries_of, operation_of, test_of}

sums : entries_of 4 (operation_of 4 operation.Add)
    ≡ 0 ∷ 1 ∷ 2 ∷ 3 ∷ 1 ∷ 2 ∷ 3 ∷ 0 ∷ 2 ∷ 3 ∷ 0 ∷ 1 ∷ 3 ∷ 0 ∷ 1 ∷ 2 ∷ []
sums = refl

differences : entries_of 4 (operation_of 4 operation.Sub)
    ≡ 0 ∷ 3 ∷ 2 ∷ 1 ∷ 1 ∷ 0 ∷ 3 ∷ 2 ∷ 2 ∷ 1 ∷ 0 ∷ 3 ∷ 3 ∷ 2 ∷ 1 ∷ 0 ∷ []
differences = refl

products : entries_of 4 (operation_of 4 operation.Mul)
    ≡ 0 ∷ 0 ∷ 0 ∷ 0 ∷ 0 ∷ 1 ∷ 2 ∷ 3 ∷ 0 ∷ 2 ∷ 0 ∷ 2 ∷ 0 ∷ 3 ∷ 2 ∷ 1 ∷ []
products = refl

common_bits : entries_of 4 (operation_of 4 operation.And)
    ≡ 0 ∷ 0 ∷ 0 ∷ 0 ∷ 0 ∷ 1 ∷ 0 ∷ 1 ∷ 0 ∷ 0 ∷ 2 ∷ 2 ∷ 0 ∷ 1 ∷ 2 ∷ 3 ∷ []
common_bits = refl

all_bits : entries_of 4 (operation_of 4 operation.Or)
    ≡ 0 ∷ 1 ∷ 2 ∷ 3 ∷ 1 ∷ 1 ∷ 3 ∷ 3 ∷ 2 ∷ 3 ∷ 2 ∷ 3 ∷ 3 ∷ 3 ∷ 3 ∷ 3 ∷ []
all_bits = refl

other_bits : entries_of 4 (operation_of 4 operation.Xor)
    ≡ 0 ∷ 1 ∷ 2 ∷ 3 ∷ 1 ∷ 0 ∷ 3 ∷ 2 ∷ 2 ∷ 3 ∷ 0 ∷ 1 ∷ 3 ∷ 2 ∷ 1 ∷ 0 ∷ []
other_bits = refl

changed_bits : entries_of 4 (operation_of 4 operation.Not)
    ≡ 3 ∷ 2 ∷ 1 ∷ 0 ∷ []
changed_bits = refl

next_words : entries_of 4 (operation_of 4 operation.Inc)
    ≡ 1 ∷ 2 ∷ 3 ∷ 0 ∷ []
next_words = refl

words_before : entries_of 4 (operation_of 4 operation.Dec)
    ≡ 3 ∷ 0 ∷ 1 ∷ 2 ∷ []
words_before = refl

doubles : entries_of 4 (operation_of 4 operation.Shl)
    ≡ 0 ∷ 2 ∷ 0 ∷ 2 ∷ []
doubles = refl

halves : entries_of 4 (operation_of 4 operation.Shr)
    ≡ 0 ∷ 0 ∷ 1 ∷ 1 ∷ []
halves = refl

a_constant : entries_of 4 (operation_of 4 (operation.Const 3)) ≡ 3 ∷ []
a_constant = refl

below : entries_of 4 (test_of test.Less)
    ≡ 0 ∷ 1 ∷ 1 ∷ 1 ∷ 0 ∷ 0 ∷ 1 ∷ 1 ∷ 0 ∷ 0 ∷ 0 ∷ 1 ∷ 0 ∷ 0 ∷ 0 ∷ 0 ∷ []
below = refl

not_above : entries_of 4 (test_of test.AtMost)
    ≡ 1 ∷ 1 ∷ 1 ∷ 1 ∷ 0 ∷ 1 ∷ 1 ∷ 1 ∷ 0 ∷ 0 ∷ 1 ∷ 1 ∷ 0 ∷ 0 ∷ 0 ∷ 1 ∷ []
not_above = refl

zeros : entries_of 4 (test_of test.Zero)
    ≡ 1 ∷ 0 ∷ 0 ∷ 0 ∷ []
zeros = refl

odd_words : entries_of 4 (test_of test.Odd)
    ≡ 0 ∷ 1 ∷ 0 ∷ 1 ∷ []
odd_words = refl

nonzeros : entries_of 4 (test_of test.Nonzero)
    ≡ 0 ∷ 1 ∷ 1 ∷ 1 ∷ []
nonzeros = refl
