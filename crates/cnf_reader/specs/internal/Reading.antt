-- Internal: what a formula's text is where a part of it has been read. Only private functions of this crate use these words.
use Rattle.std.specs.Prelude.{ℕ, suc, ◌+◌, nat_lt, not, cond, ℤ, List, [], ◌∷◌, ◌++◌, map, length, find, count_by, flat_map}
use Rattle.std.specs.Prelude.{codes, bytes_eq, Option, Some, None, option_and_then}
use Rattle.tsl_text.specs.Lines.{NumberedLine, lines, words}
use Rattle.tsl_text.specs.Numbers.{number_in}
use Rattle.refutation_check.specs.DataLines.{words_beside}
use Rattle.refutation_check.specs.Numbers.{is_zero}
use Rattle.refutation_check.specs.declared.limits.TheConstants.{MOST_VARIABLES, MOST_CLAUSES}
use Rattle.cnf_reader.specs.declared.told.Counts.{Counts}
use Rattle.cnf_reader.specs.declared.stages.Heading.{Heading}
use Rattle.cnf_reader.specs.declared.stages.Heading.TheVariants.{Kind, Form, Variables, Clauses, Ended}
use Rattle.cnf_reader.specs.declared.stages.Stage.{Stage}
use Rattle.cnf_reader.specs.declared.stages.Stage.TheVariants.{Comments, Header, Numbers, Wrong}
use Rattle.cnf_reader.specs.CnfText.{CnfAnswer, is_cnf, form_at, too_many_variables, too_many_clauses, header, is_right, with_zeros, numbers_of}
use Rattle.cnf_reader.specs.internal.Told.{Tells, fresh, ended_clauses}
use Rattle.cnf_reader.specs.internal.RestOfText.{data_lines_from, words_from, line_rest, later_lines}

-- ---- words behind the header

-- what a text is whose words are right, where these numbers are left
abbrev pub numbers_answer : ℕ → Tells → List ℤ → CnfAnswer
numbers_answer after tells numbers =
    cond (nat_lt (tells.ended + count_by is_zero numbers) tells.counts.clauses) (form_at after)
    (cond (nat_lt MOST_VARIABLES tells.counts.variables) too_many_variables
    (cond (nat_lt MOST_CLAUSES tells.counts.clauses) too_many_clauses
    (is_cnf tells.counts.variables (tells.clauses ++ ended_clauses tells.literals numbers))))

abbrev pub checked_answer : ℕ → Tells → List (ℕ × List ℕ) → Option (ℕ × (ℕ × List ℕ)) → CnfAnswer
checked_answer after tells words (Some wrong) = form_at wrong.1.0
checked_answer after tells words None = numbers_answer after tells (numbers_of words)

-- what a text is whose words are right so far, where these words are left
abbrev pub words_answer : ℕ → Tells → List (ℕ × List ℕ) → CnfAnswer
words_answer after tells words =
    checked_answer after tells words (find (λ word. not (is_right tells.counts word)) (with_zeros tells.ended words))

-- ---- words of the header

-- what a header tells behind its number of variables
abbrev pub counts_behind : ℕ → List (List ℕ) → Option Counts
counts_behind variables (word ∷ []) = option_and_then (λ clauses. Some (record { variables = variables; clauses = clauses })) (number_in word)
counts_behind variables words = None

-- what it tells behind `cnf`
abbrev pub behind_form : List (List ℕ) → Option Counts
behind_form [] = None
behind_form (word ∷ words) = option_and_then (λ variables. counts_behind variables words) (number_in word)

-- what it tells behind `p`
abbrev pub behind_kind : List (List ℕ) → Option Counts
behind_kind [] = None
behind_kind (word ∷ words) = cond (bytes_eq word (codes "cnf")) (behind_form words) None

-- what a text is whose header, on this line, tells these counts, where these words are behind it
abbrev pub counted_answer : ℕ → ℕ → List (ℕ × List ℕ) → Option Counts → CnfAnswer
counted_answer after line behind None = form_at line
counted_answer after line behind (Some counts) = words_answer after (fresh counts) behind

-- what a text is whose header ends where no word is left
abbrev pub ended_answer : ℕ → Tells → ℕ → List (ℕ × List ℕ) → List (List ℕ) → CnfAnswer
ended_answer after tells line behind [] = words_answer after tells behind
ended_answer after tells line behind (word ∷ words) = form_at line

-- what a text is within whose header these words are left
abbrev pub header_answer : Heading → ℕ → Tells → ℕ → List (ℕ × List ℕ) → List (List ℕ) → CnfAnswer
header_answer Kind after tells line behind words = counted_answer after line behind (header words)
header_answer Form after tells line behind words = counted_answer after line behind (behind_kind words)
header_answer Variables after tells line behind words = counted_answer after line behind (behind_form words)
header_answer (Clauses variables) after tells line behind words = counted_answer after line behind (counts_behind variables words)
header_answer Ended after tells line behind words = ended_answer after tells line behind words

-- ---- lines

-- what a text is whose lines so far are comments, where these lines are left that are none
abbrev pub lines_answer : ℕ → List NumberedLine → CnfAnswer
lines_answer after [] = form_at after
lines_answer after (line ∷ rest) = counted_answer after line.number (flat_map words_beside rest) (header (words line.bytes))

-- What a text is where it has been read up to a byte of the line of this number, these words of that line are left, and then these lines.
abbrev pub answer_at : Stage → Tells → ℕ → List (List ℕ) → List ℕ → CnfAnswer
answer_at Comments tells number words later = lines_answer (suc (number + length (lines later))) (data_lines_from (number + 1) later)
answer_at (Header heading) tells number words later =
    header_answer heading (suc (number + length (lines later))) tells number (words_from (number + 1) later) words
answer_at Numbers tells number words later =
    words_answer (suc (number + length (lines later))) tells (map (λ word. (number, word)) words ++ words_from (number + 1) later)
answer_at (Wrong line) tells number words later = form_at line

-- the same where this text is left
unfoldable pub answer_left : Stage → Tells → ℕ → List ℕ → CnfAnswer
answer_left stage tells number text = answer_at stage tells number (words (line_rest text)) (later_lines text)

-- what a text is that ends where this comes next
abbrev pub end_answer : Stage → Tells → ℕ → CnfAnswer
end_answer Comments tells number = form_at (number + 1)
end_answer (Header Ended) tells number = numbers_answer (number + 1) tells []
end_answer (Header heading) tells number = form_at number
end_answer Numbers tells number = numbers_answer (number + 1) tells []
end_answer (Wrong line) tells number = form_at line
