-- The definitions on cases that were worked by hand: what they accept, and what they refuse.
use Rattle.std.proofs.Common.{◌≡◌, ℕ, List, [], ◌∷◌, pos, negsuc, Some, None, true, false, refl}
use Rattle.std.specs.Prelude.{codes}
use Rattle.clause_core.specs.Literals.{Lit, literal_of}
use Rattle.refutation_check.specs.declared.steps.Step.{Step}
use Rattle.refutation_check.specs.DataLines.{data_lines}
use Rattle.refutation_check.specs.LogText.{log_answer, is_log, form_at}
use Rattle.refutation_check.specs.Checking.{log_refusal, at_line, at_hint, unfinished}

-- ---- lines

-- a comment keeps its number
numbered : data_lines (codes "c a\nb\ncnf\n d") ≡ record { number = 2; bytes = codes "b"; ended = true } ∷ record {
  number = 4;
  bytes =
      codes " d";
  ended = false;
} ∷ []
numbered = refl

-- ---- logs

abbrev a : Lit
a = literal_of (pos 1)

abbrev b : Lit
b = literal_of (pos 2)

abbrev na : Lit
na = literal_of (negsuc 0)

abbrev nb : Lit
nb = literal_of (negsuc 1)

-- a comment, a deletion with a 0 among its numbers, a line without a word, a step, an empty clause
steps : log_answer (codes "c\n5 d 0 3 0\n \n6 2 -1 0 1 2 0\n07 0 5 3 4 0")
    ≡ is_log (record { number = 6; clause = na ∷ b ∷ []; hints = 1 ∷ 2 ∷ [] } ∷ record {
      number = 7;
      clause = [];
      hints =
          5 ∷ 3 ∷ 4 ∷ [];
    } ∷ [])
steps = refl

no_step : log_answer [] ≡ is_log []
no_step = refl

no_lists : log_answer (codes "5 1 0 1 0\n5\n") ≡ form_at 2
no_lists = refl

one_list : log_answer (codes "5 -1 0\n") ≡ form_at 1
one_list = refl

one_list_open : log_answer (codes "5 -1 0 1\n") ≡ form_at 1
one_list_open = refl

behind_the_end : log_answer (codes "5 1 0 1 0 1\n") ≡ form_at 1
behind_the_end = refl

negative_hint : log_answer (codes "5 1 0 -1 0\n") ≡ form_at 1
negative_hint = refl

least_literal : log_answer (codes "5 -2147483648 0 1 0\n") ≡ form_at 1
least_literal = refl

deletion_without_end : log_answer (codes "5 d 0 3\n") ≡ form_at 1
deletion_without_end = refl

deletion_without_number : log_answer (codes "d 3 0\n") ≡ form_at 1
deletion_without_number = refl

deletion_of_none : log_answer (codes "5 d 0\n") ≡ is_log []
deletion_of_none = refl

negative_step : log_answer (codes "-5 1 0 1 0\n") ≡ form_at 1
negative_step = refl

late_comment : log_answer (codes " c\n") ≡ form_at 1
late_comment = refl

-- ---- checks

-- the clauses 1 2, 1 -2, -1 2 and -1 -2
abbrev square : List (List Lit)
square = (a ∷ b ∷ []) ∷ (nb ∷ a ∷ []) ∷ (na ∷ b ∷ []) ∷ (nb ∷ na ∷ []) ∷ []

abbrev stated : ℕ → List Lit → List ℕ → Step
stated number clause hints = record { number = number; clause = clause; hints = hints }

abbrev last : Step
last = stated 6 [] (5 ∷ 3 ∷ 4 ∷ [])

refuted : log_refusal 2 square (stated 5 (a ∷ []) (1 ∷ 2 ∷ []) ∷ last ∷ []) ≡ None
refuted = refl

-- hints behind success are not looked at
hints_left : log_refusal 2 square (stated 5 (a ∷ []) (1 ∷ 2 ∷ 9 ∷ []) ∷ last ∷ []) ≡ None
hints_left = refl

hints_end : log_refusal 2 square (stated 5 (a ∷ []) (1 ∷ []) ∷ last ∷ []) ≡ Some (at_hint 5 2)
hints_end = refl

number_taken : log_refusal 2 square (stated 4 (a ∷ []) (1 ∷ 2 ∷ []) ∷ last ∷ []) ≡ Some (at_line 4)
number_taken = refl

satisfied_hint : log_refusal 2 square (stated 5 (a ∷ []) (2 ∷ 3 ∷ []) ∷ last ∷ []) ≡ Some (at_hint 5 2)
satisfied_hint = refl

unknown_hint : log_refusal 2 square (stated 5 (a ∷ []) (5 ∷ []) ∷ last ∷ []) ≡ Some (at_hint 5 1)
unknown_hint = refl

two_open : log_refusal 2 square (stated 5 [] (1 ∷ []) ∷ []) ≡ Some (at_hint 5 1)
two_open = refl

pair : log_refusal 2 square (stated 5 (na ∷ a ∷ []) (1 ∷ []) ∷ []) ≡ Some (at_line 5)
pair = refl

past_variable : log_refusal 1 ((a ∷ []) ∷ (na ∷ []) ∷ []) (stated 3 (b ∷ []) (1 ∷ 2 ∷ []) ∷ []) ≡ Some (at_line 3)
past_variable = refl

no_empty_clause : log_refusal 2 square (stated 5 (a ∷ []) (1 ∷ 2 ∷ []) ∷ []) ≡ Some unfinished
no_empty_clause = refl

-- an empty clause of the formula is no step
no_steps : log_refusal 2 ([] ∷ []) [] ≡ Some unfinished
no_steps = refl

-- a step behind the empty clause is still checked
later_step : log_refusal 1 ((a ∷ []) ∷ (na ∷ []) ∷ []) (stated 3 [] (1 ∷ 2 ∷ []) ∷ stated 3 [] (1 ∷ []) ∷ []) ≡ Some (at_line 3)
later_step = refl
