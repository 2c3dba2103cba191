-- Texts of logs: lines `NUMBER LITERALS 0 HINTS 0` and `NUMBER d NUMBERS 0`.
use Rattle.std.specs.Prelude.{ℕ, zero, suc, ◌==◌, nat_lt, Bool, true, false, not, cond, ◌&&◌, ℤ, pos, negsuc, nat_abs, List, [], ◌∷◌, map}
use Rattle.std.specs.Prelude.{find, filter_map, codes, bytes_eq, Option, Some, None, is_some}
use Rattle.std.specs.List.{list_all, slice_split}
use Rattle.clause_core.specs.Literals.{literal_of}
use Rattle.clause_core.specs.Clauses.{in_order}
use Rattle.base_library.specs.Options.{all_there, passes}
use Rattle.tsl_text.specs.Lines.{NumberedLine, numbered_lines, words}
use Rattle.tsl_text.specs.Numbers.{number_in, signed_number_in}
use Rattle.refutation_check.specs.DataLines.{is_comment}
use Rattle.refutation_check.specs.Numbers.{is_zero}
use Rattle.refutation_check.specs.declared.steps.Step.{Step}
use Rattle.refutation_check.specs.declared.lrat.Line.{Line}
use Rattle.refutation_check.specs.declared.lrat.Line.TheVariants.{Says, NoEffect, Wrong}

-- what a text is: a log, with its steps; or malformed at a line
pub data LogAnswer : Type 0 where
  is_log : List Step → LogAnswer
  form_at : ℕ → LogAnswer

-- whether a number is that of a literal
abbrev pub is_literal : ℤ → Bool
is_literal n = not (is_zero n) && nat_lt (nat_abs n) 2147483648

-- whether a number may be a hint
abbrev pub is_hint : ℤ → Bool
is_hint (pos zero) = false
is_hint (pos (suc n)) = true
is_hint (negsuc n) = false

-- the step of a number, the literals and the hints
abbrev pub step_of : ℕ → List ℤ → List ℤ → Line
step_of name literals hints =
    cond (list_all is_literal literals && list_all is_hint hints)
    (Says (record { number = name; clause = in_order (map literal_of literals); hints = map nat_abs hints })) Wrong

-- the step whose lists are these parts: the literals, the hints, and nothing after the last zero
abbrev pub step_of_parts : ℕ → List (List ℤ) → Line
step_of_parts name (literals ∷ hints ∷ [] ∷ []) = step_of name literals hints
step_of_parts name parts = Wrong

abbrev pub step_of_numbers : ℕ → Option (List ℤ) → Line
step_of_numbers name None = Wrong
step_of_numbers name (Some numbers) = step_of_parts name (slice_split is_zero numbers)

-- whether words end a deletion: they are numbers, the last of them 0
abbrev pub are_deleted : List (List ℕ) → Bool
are_deleted [] = false
are_deleted (word ∷ []) = passes (λ n. n == 0) (number_in word)
are_deleted (word ∷ next ∷ words) = is_some (number_in word) && are_deleted (next ∷ words)

-- what a line is after its number
abbrev pub line_of_number : List (List ℕ) → Option ℕ → Line
line_of_number rest None = Wrong
line_of_number [] (Some name) = Wrong
line_of_number (word ∷ words) (Some name) =
    cond (bytes_eq word (codes "d")) (cond (are_deleted words) NoEffect Wrong)
    (step_of_numbers name (all_there (map signed_number_in (word ∷ words))))

abbrev pub line_of_words : List (List ℕ) → Line
line_of_words [] = NoEffect
line_of_words (word ∷ words) = line_of_number words (number_in word)

-- what a line is
abbrev pub line_answer : List ℕ → Line
line_answer line = cond (is_comment line) NoEffect (line_of_words (words line))

abbrev pub is_wrong : Line → Bool
is_wrong Wrong = true
is_wrong (Says s) = false
is_wrong NoEffect = false

abbrev pub step_in : Line → Option Step
step_in (Says s) = Some s
step_in NoEffect = None
step_in Wrong = None

abbrev pub log_answer_of_lines : List NumberedLine → Option NumberedLine → LogAnswer
log_answer_of_lines lines (Some first) = form_at first.number
log_answer_of_lines lines None = is_log (filter_map (λ line. step_in (line_answer line.bytes)) lines)

-- what a text is: malformed at its first wrong line, and otherwise the log of its steps
abbrev pub log_answer : List ℕ → LogAnswer
log_answer text = log_answer_of_lines (numbered_lines text) (find (λ line. is_wrong (line_answer line.bytes)) (numbered_lines text))
