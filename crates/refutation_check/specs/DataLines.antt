-- The lines of a text that are no comments, and their words.
use Rattle.std.specs.Prelude.{ℕ, ◌==◌, Bool, false, not, List, [], ◌∷◌, map, filter}
use Rattle.tsl_text.specs.Lines.{NumberedLine, numbered_lines, words}

-- whether the first byte is a `c`
abbrev pub is_comment : List ℕ → Bool
is_comment [] = false
is_comment (byte ∷ bytes) = byte == 99

-- the lines that are no comments
abbrev pub data_lines : List ℕ → List NumberedLine
data_lines text = filter (λ line. not (is_comment line.bytes)) (numbered_lines text)

-- words beside the number of their line
abbrev pub words_at : ℕ → List ℕ → List (ℕ × List ℕ)
words_at number line = map (λ word. (number, word)) (words line)

-- the words of a line, each beside the line's number
abbrev pub words_beside : NumberedLine → List (ℕ × List ℕ)
words_beside line = words_at line.number line.bytes
