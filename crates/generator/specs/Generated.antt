-- The specification of a number, and what is said of it. Both formats are the project's own.
use Rattle.std.specs.Prelude.{ℕ, Bool, true, false, List, ◌++◌, codes, decimal, flat_map}
use Rattle.base_library.specs.Numbers.{numbers_from}

-- `req r7 -> F [g <- pick r7];`: whenever the request holds, the output takes the pick of it at some time
abbrev pub response_line : ℕ → List ℕ
response_line i = codes "req r" ++ decimal i ++ codes " -> F [g <- pick r" ++ decimal i ++ codes "];\n"

-- a section with the responses to so many requests
abbrev pub generated_text : ℕ → List ℕ
generated_text n = codes "always guarantee {\n" ++ flat_map response_line (numbers_from 0 n) ++ codes "}\n"

abbrev pub outcome_line : Bool → List ℕ
outcome_line true = codes "outcome program\n"
outcome_line false = codes "outcome none\n"

-- the number of the specification, how many predicate terms and updates it has, and whether there is a program for it
abbrev pub summary_text : ℕ → ℕ → ℕ → Bool → List ℕ
summary_text n predicates updates has_program =
    (codes "gen " ++ decimal n ++ codes "\n") ++ (codes "predicates " ++ decimal predicates ++ codes "\n")
    ++ (codes "updates " ++ decimal updates ++ codes "\n") ++ outcome_line has_program
