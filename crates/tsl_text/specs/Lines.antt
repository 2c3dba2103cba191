-- The lines of a text, and what stands in a line: words between blanks, or fields between single spaces.
use Rattle.std.specs.Prelude.{ℕ, suc, ◌==◌, Bool, true, false, not, cond, ◌||◌, List, [], ◌∷◌, filter, IsTrue}
use Rattle.std.specs.List.{list_all, slice_split, onto_first}

-- space, tab, carriage return and line feed
abbrev pub is_blank : ℕ → Bool
is_blank byte = (byte == 32) || ((byte == 9) || ((byte == 13) || (byte == 10)))

-- a byte within a line: any but a line feed
abbrev pub is_line_byte : ℕ → Bool
is_line_byte byte = not (byte == 10)

abbrev pub HasNoLineFeed : List ℕ → Type 0
HasNoLineFeed bytes = IsTrue (list_all is_line_byte bytes)

-- The lines of a text: each line feed ends one, and so does the text's end where bytes stand before it. After a
-- final line feed there is no line.
abbrev pub lines : List ℕ → List (List ℕ)
lines [] = []
lines (byte ∷ bytes) = cond (byte == 10) ([] ∷ lines bytes) (onto_first byte (lines bytes))

-- whether each line of the text has its line feed: the text is empty, or its last byte is one
abbrev pub is_ended : List ℕ → Bool
is_ended [] = true
is_ended (byte ∷ []) = byte == 10
is_ended (byte ∷ next ∷ bytes) = is_ended (next ∷ bytes)

-- a line with its number and whether its line feed follows it
pub record NumberedLine : Type 0 where
  pub number : ℕ
  pub bytes : List ℕ
  pub ended : Bool

-- Lines with the numbers from this one on. Each but the last has its line feed, and the last has it or not.
abbrev pub with_numbers : ℕ → Bool → List (List ℕ) → List NumberedLine
with_numbers number ended [] = []
with_numbers number ended (line ∷ []) = record { number = number; bytes = line; ended = ended } ∷ []
with_numbers number ended (line ∷ next ∷ rest) =
    record { number = number; bytes = line; ended = true } ∷ with_numbers (suc number) ended (next ∷ rest)

-- the lines of a text whose first one has this number
abbrev pub lines_from : ℕ → List ℕ → List NumberedLine
lines_from number text = with_numbers number (is_ended text) (lines text)

-- the lines of a text with their numbers from 1
abbrev pub numbered_lines : List ℕ → List NumberedLine
numbered_lines text = lines_from 1 text

abbrev pub has_bytes : List ℕ → Bool
has_bytes [] = false
has_bytes (byte ∷ bytes) = true

-- the words of a line: its parts between blanks that have a byte
abbrev pub words : List ℕ → List (List ℕ)
words line = filter has_bytes (slice_split is_blank line)

abbrev pub is_space : ℕ → Bool
is_space byte = byte == 32

-- the fields of a line: its parts between single spaces, so that two spaces in a row have an empty field between them
abbrev pub fields : List ℕ → List (List ℕ)
fields line = slice_split is_space line
