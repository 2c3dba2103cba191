-- How an assignment is written, and what a text tells as values.
use Rattle.std.specs.Prelude.{ℕ, suc, ◌%◌, ◌==◌, Bool, cond, ℤ, List, [], ◌∷◌, ◌++◌, codes, bytes_eq, flat_map, filter_map}
use Rattle.clause_core.specs.Literals.{Lit}
use Rattle.tsl_text.specs.Lines.{lines, words}
use Rattle.tsl_text.specs.Numbers.{signed_number_in}
use Rattle.refutation_text.specs.Written.{literal_word}

-- before each eighth literal a new line begins
abbrev pub line_break : ℕ → List ℕ
line_break place = cond (place % 8 == 0) (codes "\nv") []

-- the literals that are true, from the variable with this index on, and a last 0 on a line of its own
abbrev pub value_lines : ℕ → List Bool → List ℕ
value_lines place [] = codes "\nv 0\n"
value_lines place (truth ∷ truths) =
    line_break place ++ codes " " ++ literal_word (record { index = place; positive = truth }) ++ value_lines (suc place) truths

abbrev pub satisfiable_text : List Bool → List ℕ
satisfiable_text truths = codes "s SATISFIABLE" ++ value_lines 0 truths

-- the numbers that words mean behind a first word `v`
abbrev pub values_of_words : List (List ℕ) → List ℤ
values_of_words [] = []
values_of_words (first ∷ rest) = cond (bytes_eq first (codes "v")) (filter_map signed_number_in rest) []

abbrev pub values_of_line : List ℕ → List ℤ
values_of_line line = values_of_words (words line)

-- the numbers that the lines tell which begin with a word `v`
abbrev pub told_values : List ℕ → List ℤ
told_values text = flat_map values_of_line (lines text)

-- the literal of each variable that is true, from the variable with this index on
abbrev pub told_literals : ℕ → List Bool → List Lit
told_literals place [] = []
told_literals place (truth ∷ truths) = record { index = place; positive = truth } ∷ told_literals (suc place) truths
