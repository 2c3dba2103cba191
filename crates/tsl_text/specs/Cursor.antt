-- What is left of a text that is read line by line.
use Rattle.std.specs.Prelude.{◌+◌, ◌<◌, ◌^◌, List, length}
use Rattle.tsl_text.specs.Lines.{NumberedLine, lines_from}
use Rattle.tsl_text.specs.declared.lines.Line.{Line}
use Rattle.tsl_text.specs.declared.lines.Lines.{Lines}

abbrev pub line_view : Line → NumberedLine
line_view line = record { number = line.number; bytes = line.bytes.now; ended = line.ended }

-- the lines that are left
abbrev pub lines_left : Lines → List NumberedLine
lines_left left = lines_from left.number left.text.now

-- a number above that of each line that is left can be counted
abbrev pub IsCountable : Lines → Type 0
IsCountable left = left.number + length left.text.now < 2 ^ 32
