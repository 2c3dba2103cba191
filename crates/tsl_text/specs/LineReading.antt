-- Texts that are read line by line, where what the lines so far say decides which line may come next.
use Rattle.std.specs.Prelude.{List, [], ◌∷◌, Result, Ok, Err}
use Rattle.tsl_text.specs.Lines.{NumberedLine}

-- a value, and what is done with it, or a fault
abbrev pub or_fault : {A B E : Type 0} → Result A E → (A → Result B E) → Result B E
or_fault (Ok value) rest = rest value
or_fault (Err fault) rest = Err fault

-- What lines say, where these were read before them: `read` says for one line what it adds, or that it is at fault.
-- The first line at fault is told.
abbrev pub read_lines : {S E : Type 0} → (S → NumberedLine → Result S E) → S → List NumberedLine → Result S E
read_lines read so_far [] = Ok so_far
read_lines read so_far (line ∷ lines) = or_fault (read so_far line) (λ next. read_lines read next lines)
