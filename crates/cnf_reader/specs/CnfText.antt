-- Texts of formulas in conjunctive normal form: a header `p cnf V C`, then C clauses over V variables.
use Rattle.std.specs.Prelude.{ℕ, suc, ◌+◌, nat_le, nat_lt, Bool, not, cond, ◌&&◌, ℤ, nat_abs, List, [], ◌∷◌, map, length, take, find}
use Rattle.std.specs.Prelude.{scan, count_by, flat_map, filter_map, codes, bytes_eq, Option, Some, None, option_map, option_and_then}
use Rattle.std.specs.List.{slice_split}
use Rattle.clause_core.specs.Literals.{Lit, literal_of}
use Rattle.clause_core.specs.Clauses.{in_order}
use Rattle.cnf_reader.specs.declared.told.Counts.{Counts}
use Rattle.base_library.specs.Options.{passes}
use Rattle.refutation_check.specs.declared.limits.TheConstants.{MOST_VARIABLES, MOST_CLAUSES}
use Rattle.tsl_text.specs.Lines.{NumberedLine, lines, words}
use Rattle.tsl_text.specs.Numbers.{number_in, signed_number_in}
use Rattle.refutation_check.specs.DataLines.{data_lines, words_beside}
use Rattle.refutation_check.specs.Numbers.{is_zero}

-- what a text is: a formula, with its number of variables and its clauses; malformed at a line; or past a limit
pub data CnfAnswer : Type 0 where
  is_cnf : ℕ → List (List Lit) → CnfAnswer
  form_at : ℕ → CnfAnswer
  too_many_variables : CnfAnswer
  too_many_clauses : CnfAnswer

-- the numbers of variables and of clauses, where both are there
abbrev pub counts_of : Option ℕ → Option ℕ → Option Counts
counts_of variables clauses = option_and_then (λ v. option_map (λ c. record { variables = v; clauses = c }) clauses) variables

-- the counts that a line's words tell, which are `p`, `cnf` and two numbers
abbrev pub header : List (List ℕ) → Option Counts
header (p ∷ cnf ∷ variables ∷ clauses ∷ []) =
    cond (bytes_eq p (codes "p") && bytes_eq cnf (codes "cnf")) (counts_of (number_in variables) (number_in clauses)) None
header words = None

-- whether a word means a number that passes the test
abbrev pub means : (ℤ → Bool) → List ℕ → Bool
means test word = passes test (signed_number_in word)

-- each word, with its line, beside how many zeros stand before it
abbrev pub with_zeros : ℕ → List (ℕ × List ℕ) → List (ℕ × (ℕ × List ℕ))
with_zeros zeros words = scan (λ before word. before + cond (means is_zero word.1) 1 0) (λ before word. (before, word)) zeros words

-- whether a word with zeros before it is right: a clause is left for it, and it means a number up to V or its opposite
abbrev pub is_right : Counts → ℕ × (ℕ × List ℕ) → Bool
is_right counts word = nat_lt word.0 counts.clauses && means (λ n. nat_le (nat_abs n) counts.variables) word.1.1

-- the first wrong word
abbrev pub first_wrong : Counts → List (ℕ × List ℕ) → Option (ℕ × (ℕ × List ℕ))
first_wrong counts words = find (λ word. not (is_right counts word)) (with_zeros 0 words)

-- the numbers that words mean
abbrev pub numbers_of : List (ℕ × List ℕ) → List ℤ
numbers_of words = filter_map (λ word. signed_number_in word.1) words

-- the clauses that numbers tell: a zero ends each
abbrev pub clauses_of_numbers : ℕ → List ℤ → List (List Lit)
clauses_of_numbers count numbers = map (λ part. in_order (map literal_of part)) (take count (slice_split is_zero numbers))

-- what a text is whose words are right
abbrev pub answer_of_numbers : ℕ → Counts → List ℤ → CnfAnswer
answer_of_numbers after counts numbers =
    cond (nat_lt (count_by is_zero numbers) counts.clauses) (form_at after)
    (cond (nat_lt MOST_VARIABLES counts.variables) too_many_variables
    (cond (nat_lt MOST_CLAUSES counts.clauses) too_many_clauses
    (is_cnf counts.variables (clauses_of_numbers counts.clauses numbers))))

abbrev pub answer_of_words : ℕ → Counts → List (ℕ × List ℕ) → Option (ℕ × (ℕ × List ℕ)) → CnfAnswer
answer_of_words after counts words (Some wrong) = form_at wrong.1.0
answer_of_words after counts words None = answer_of_numbers after counts (numbers_of words)

abbrev pub answer_of_header : ℕ → ℕ → List (ℕ × List ℕ) → Option Counts → CnfAnswer
answer_of_header after line words None = form_at line
answer_of_header after line words (Some counts) = answer_of_words after counts words (first_wrong counts words)

abbrev pub cnf_answer_of_lines : ℕ → List NumberedLine → CnfAnswer
cnf_answer_of_lines after [] = form_at after
cnf_answer_of_lines after (line ∷ lines) = answer_of_header after line.number (flat_map words_beside lines) (header (words line.bytes))

-- What a text is. Its lines that are no comments begin with the header's; the words of the others are the clauses. Where
-- there is no header, or a clause is missing, the line after the last is at fault.
abbrev pub cnf_answer : List ℕ → CnfAnswer
cnf_answer text = cnf_answer_of_lines (suc (length (lines text))) (data_lines text)
