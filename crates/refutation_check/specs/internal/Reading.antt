-- Internal: how far a log's text has been read. Only private functions of this crate use these words.
use Rattle.std.specs.Prelude.{ℕ, ◌≤◌, ⊤, ◌==◌, Bool, false, pos, List, [], ◌∷◌, ◌++◌, map}
use Rattle.std.specs.Prelude.{length, find, filter_map, Option, Some, None, option_map}
use Rattle.clause_core.specs.Literals.{Lit, signed_number_of}
use Rattle.base_library.specs.Options.{all_there}
use Rattle.tsl_text.specs.Lines.{NumberedLine}
use Rattle.tsl_text.specs.Numbers.{signed_number_in}
use Rattle.refutation_check.specs.LogText.{LogAnswer, is_log, form_at, step_of_numbers, are_deleted, line_answer, is_wrong, step_in}
use Rattle.refutation_check.specs.declared.steps.Step.{Step}
use Rattle.refutation_check.specs.declared.lrat.Line.{Line}
use Rattle.refutation_check.specs.declared.lrat.Line.TheVariants.{Says, NoEffect, Wrong}

-- whether the first byte of a word is a `0`
abbrev pub begins_with_zero : List ℕ → Bool
begins_with_zero [] = false
begins_with_zero (byte ∷ bytes) = byte == 48

-- what a line is with these literals and the words after them
abbrev pub with_literals : ℕ → List Lit → List (List ℕ) → Line
with_literals name literals words =
    step_of_numbers name (option_map (λ ns. map signed_number_of literals ++ ns) (all_there (map signed_number_in words)))

-- what a line is with these literals, a 0, these hints and the words after them
abbrev pub with_hints : ℕ → List Lit → List ℕ → List (List ℕ) → Line
with_hints name literals hints words =
    step_of_numbers name (option_map (λ ns. map signed_number_of literals ++ pos 0 ∷ (map pos hints ++ ns))
    (all_there (map signed_number_in words)))

-- what a line is with these literals, a 0, these hints, a 0 and the words after them
abbrev pub with_both : ℕ → List Lit → List ℕ → List (List ℕ) → Line
with_both name literals hints words =
    step_of_numbers name (option_map (λ ns. map signed_number_of literals ++ pos 0 ∷ (map pos hints ++ pos 0 ∷ ns))
    (all_there (map signed_number_in words)))

-- whether words end a deletion, where the number before them was a 0 or not
abbrev pub end_deleted : Bool → List (List ℕ) → Bool
end_deleted ended [] = ended
end_deleted ended (word ∷ words) = are_deleted (word ∷ words)

abbrev pub log_after : List Step → List NumberedLine → Option NumberedLine → LogAnswer
log_after steps lines (Some first) = form_at first.number
log_after steps lines None = is_log (steps ++ filter_map (λ line. step_in (line_answer line.bytes)) lines)

-- what a text is with these steps before it, where these lines are left
abbrev pub log_among : List Step → List NumberedLine → LogAnswer
log_among steps lines = log_after steps lines (find (λ line. is_wrong (line_answer line.bytes)) lines)

-- the step of a line, where it says one, has at most so many hints
abbrev pub HasHintsWithin : ℕ → Line → Type 0
HasHintsWithin n (Says step) = length step.hints ≤ n
HasHintsWithin n NoEffect = ⊤
HasHintsWithin n Wrong = ⊤
