-- Lines as they are written: fields with single spaces between them, and a line feed after each line.
use Rattle.std.specs.Prelude.{ℕ, Bool, not, List, [], ◌∷◌, ◌++◌, flat_map}
use Rattle.std.specs.List.{join_with_byte, list_all}
use Rattle.tsl_text.specs.Lines.{is_line_byte, is_space}

-- fields with single spaces between them
abbrev pub line_of_fields : List (List ℕ) → List ℕ
line_of_fields fields = join_with_byte 32 fields

-- lines, each with a line feed after it
abbrev pub text_of_lines : List (List ℕ) → List ℕ
text_of_lines lines = flat_map (λ line. line ++ 10 ∷ []) lines

-- whether a line can be written: no line feed stands in it
abbrev pub is_line : List ℕ → Bool
is_line bytes = list_all is_line_byte bytes

-- whether a field can be written: no space stands in it
abbrev pub is_field : List ℕ → Bool
is_field bytes = list_all (λ byte. not (is_space byte)) bytes
