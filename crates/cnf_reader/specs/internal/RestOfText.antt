-- Internal: what is left of a text that has been read up to a byte. Only private functions of this crate use these words.
use Rattle.std.specs.Prelude.{◌≡◌, ℕ, ◌+◌, ◌<◌, ◌^◌, ◌==◌, Bool, true, false, not, cond, List, [], ◌∷◌, filter, length, flat_map}
use Rattle.tsl_text.specs.Lines.{NumberedLine, lines_from, is_blank}
use Rattle.refutation_check.specs.DataLines.{is_comment, words_beside}

-- the lines of a text that are no comments, where its first line has this number
abbrev pub data_lines_from : ℕ → List ℕ → List NumberedLine
data_lines_from number text = filter (λ line. not (is_comment line.bytes)) (lines_from number text)

-- their words
abbrev pub words_from : ℕ → List ℕ → List (ℕ × List ℕ)
words_from number text = flat_map words_beside (data_lines_from number text)

-- what stands before the first line feed
abbrev pub line_rest : List ℕ → List ℕ
line_rest [] = []
line_rest (byte ∷ bytes) = cond (byte == 10) [] (byte ∷ line_rest bytes)

-- what stands after the first line feed
abbrev pub later_lines : List ℕ → List ℕ
later_lines [] = []
later_lines (byte ∷ bytes) = cond (byte == 10) bytes (later_lines bytes)

-- whether the first byte is a blank
abbrev pub begins_with_blank : List ℕ → Bool
begins_with_blank [] = false
begins_with_blank (byte ∷ bytes) = is_blank byte

-- a number above that of each line, the first of which has this one, can be counted
abbrev pub HasFewLines : ℕ → List ℕ → Type 0
HasFewLines number text = number + length text < 2 ^ 32

-- after a word stands nothing, or a blank
abbrev pub EndsWord : List ℕ → Type 0
EndsWord [] = Unit {0}
EndsWord (byte ∷ bytes) = is_blank byte ≡ true
