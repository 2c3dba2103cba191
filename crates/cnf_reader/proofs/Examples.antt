-- The definitions on cases that were worked by hand: what they accept, and what they refuse.
use Rattle.std.proofs.Common.{◌≡◌, [], ◌∷◌, pos, negsuc, refl}
use Rattle.std.specs.Prelude.{codes}
use Rattle.clause_core.specs.Literals.{Lit, literal_of}
use Rattle.refutation_check.specs.declared.limits.TheConstants.{MOST_VARIABLES, MOST_CLAUSES}
use Rattle.cnf_reader.specs.CnfText.{cnf_answer, is_cnf, form_at, too_many_variables}

abbrev a : Lit
a = literal_of (pos 1)

abbrev b : Lit
b = literal_of (pos 2)

abbrev na : Lit
na = literal_of (negsuc 0)

-- a clause over two lines, a comment within it, a repeat, and an empty clause
formula : cnf_answer (codes "c\n p cnf 2 3\n2 -1\nc 5\n2 0 00 1\n0") ≡ is_cnf 2 ((na ∷ b ∷ []) ∷ [] ∷ (a ∷ []) ∷ [])
formula = refl

no_clause : cnf_answer (codes "p cnf 0 0") ≡ is_cnf 0 []
no_clause = refl

empty_text : cnf_answer [] ≡ form_at 1
empty_text = refl

comments_alone : cnf_answer (codes "c\nc\n") ≡ form_at 3
comments_alone = refl

missing_clause : cnf_answer (codes "p cnf 2 5\n1 2 0\n1 -2 0\n-1 2 0\n-1 -2 0\n") ≡ form_at 6
missing_clause = refl

open_clause : cnf_answer (codes "p cnf 2 1\n1 2") ≡ form_at 3
open_clause = refl

empty_first_line : cnf_answer (codes "\np cnf 0 0\n") ≡ form_at 1
empty_first_line = refl

blank_comment : cnf_answer (codes " c\np cnf 0 0\n") ≡ form_at 1
blank_comment = refl

five_words : cnf_answer (codes "p cnf 0 0 0\n") ≡ form_at 1
five_words = refl

header_twice : cnf_answer (codes "p cnf 1 1\np cnf 1 1\n") ≡ form_at 2
header_twice = refl

past_variables : cnf_answer (codes "p cnf 2 2\n1 0\n-3 0\n") ≡ form_at 3
past_variables = refl

past_clauses : cnf_answer (codes "p cnf 2 1\n1 0\n\n2\n") ≡ form_at 4
past_clauses = refl

wrong_word : cnf_answer (codes "p cnf 2 1\n1x 0\n") ≡ form_at 2
wrong_word = refl

-- the limits in numbers
most_variables : MOST_VARIABLES ≡ 1048576
most_variables = refl

most_clauses : MOST_CLAUSES ≡ 2000000
most_clauses = refl

many_variables : cnf_answer (codes "p cnf 1048577 2000001\n") ≡ form_at 2
many_variables = refl

many_variables' : cnf_answer (codes "p cnf 1048577 1\n1048577 0\n") ≡ too_many_variables
many_variables' = refl

as_many_variables : cnf_answer (codes "p cnf 1048576 1\n0\n") ≡ is_cnf 1048576 ([] ∷ [])
as_many_variables = refl
