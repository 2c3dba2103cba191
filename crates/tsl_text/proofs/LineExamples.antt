-- The definitions on lines, words, fields and numbers, on texts that were worked by hand.
use Rattle.std.proofs.Common.{◌≡◌, ℕ, [], ◌∷◌, ◌+◌, true, false, pos, negsuc, Some, None, Ok, Err, refl}
use Rattle.std.specs.Prelude.{codes, Result, cond, bytes_eq}
use Rattle.tsl_text.specs.Lines.{lines, numbered_lines, NumberedLine, words, fields}
use Rattle.tsl_text.specs.Written.{text_of_lines, line_of_fields}
use Rattle.tsl_text.specs.LineReading.{read_lines}
use Rattle.tsl_text.specs.Numbers.{number_in, plain_number_in, signed_number_in}

-- ---- lines and words

two_lines : lines (codes "a\nb\n") ≡ codes "a" ∷ codes "b" ∷ []
two_lines = refl

-- a line without a line feed, and an empty line
open_line : lines (codes "\nb") ≡ [] ∷ codes "b" ∷ []
open_line = refl

no_line : lines [] ≡ []
no_line = refl

three_words : words (codes " 1\t-2  x\r") ≡ codes "1" ∷ codes "-2" ∷ codes "x" ∷ []
three_words = refl

no_word : words (codes " \t") ≡ []
no_word = refl

-- of two lines the second lacks its line feed
cut_line : numbered_lines (codes "a\nb") ≡ record { number = 1; bytes = codes "a"; ended = true } ∷ record {
  number = 2;
  bytes =
      codes "b";
  ended = false;
} ∷ []
cut_line = refl

-- two spaces in a row have an empty field between them, and a tab is no space
empty_field : fields (codes "a  b\tc") ≡ codes "a" ∷ [] ∷ codes "b\tc" ∷ []
empty_field = refl

one_field : fields [] ≡ [] ∷ []
one_field = refl

two_written : text_of_lines (line_of_fields (codes "state" ∷ codes "0" ∷ []) ∷ codes "end" ∷ []) ≡ codes "state 0\nend\n"
two_written = refl

-- lines that have to be `a`, each with its line feed: the first other one is told
abbrev one_more_a : ℕ → NumberedLine → Result ℕ ℕ
one_more_a so_far line = cond (bytes_eq line.bytes (codes "a")) (cond line.ended (Ok (so_far + 1)) (Err line.number)) (Err line.number)

all_are : read_lines one_more_a 0 (numbered_lines (codes "a\na\n")) ≡ Ok 2
all_are = refl

second_is_not : read_lines one_more_a 0 (numbered_lines (codes "a\nb\na\nb\n")) ≡ Err 2
second_is_not = refl

last_is_cut : read_lines one_more_a 0 (numbered_lines (codes "a\na")) ≡ Err 2
last_is_cut = refl

-- ---- numbers

zeros_in_front : number_in (codes "007") ≡ Some 7
zeros_in_front = refl

eighteen_digits : number_in (codes "999999999999999999") ≡ Some 999999999999999999
eighteen_digits = refl

nineteen_digits : number_in (codes "0000000000000000001") ≡ None
nineteen_digits = refl

no_digits : number_in [] ≡ None
no_digits = refl

a_sign : number_in (codes "-1") ≡ None
a_sign = refl

negative : signed_number_in (codes "-12") ≡ Some (negsuc 11)
negative = refl

plain_zero : plain_number_in (codes "0") ≡ Some 0
plain_zero = refl

not_plain : plain_number_in (codes "007") ≡ None
not_plain = refl

two_zeros : signed_number_in (codes "00") ≡ Some (pos 0)
two_zeros = refl

negative_zero : signed_number_in (codes "-0") ≡ None
negative_zero = refl

sign_alone : signed_number_in (codes "-") ≡ None
sign_alone = refl

two_signs : signed_number_in (codes "--1") ≡ None
two_signs = refl

plus : signed_number_in (codes "+1") ≡ None
plus = refl
