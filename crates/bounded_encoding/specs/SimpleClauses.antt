-- Clauses over variables whose indices a function gives for the numbers of a range.
use Rattle.std.specs.Prelude.{ℕ, ◌+◌, ◌-◌, true, false, List, [], ◌∷◌, ◌++◌, map}
use Rattle.clause_core.specs.Literals.{Lit}
use Rattle.bounded_encoding.specs.ClauseLists.{between, each}

-- the two literals of the variable with an index
abbrev pub yes_at : ℕ → Lit
yes_at index = record { index = index; positive = true }

abbrev pub no_at : ℕ → Lit
no_at index = record { index = index; positive = false }

-- some variable is true of those whose indices a function gives for the numbers from a to below b
abbrev pub some_one : (ℕ → ℕ) → ℕ → ℕ → List (List Lit)
some_one at a b = map (λ x. yes_at (at x)) (between a b) ∷ []

-- no two of them are true
abbrev pub no_two_with : (ℕ → ℕ) → ℕ → ℕ → List (List Lit)
no_two_with at x b = each (x + 1) b (λ y. (no_at (at x) ∷ no_at (at y) ∷ []) ∷ [])

abbrev pub no_two : (ℕ → ℕ) → ℕ → ℕ → List (List Lit)
no_two at a b = each a b (λ x. no_two_with at x b)

-- exactly one of them is true
abbrev pub exactly_one : (ℕ → ℕ) → ℕ → ℕ → List (List Lit)
exactly_one at a b = some_one at a b ++ no_two at a b

-- of those with the numbers from 0 to a bound, one that is true makes the one before true
abbrev pub falling : (ℕ → ℕ) → ℕ → List (List Lit)
falling at bound = each 1 (bound + 1) (λ i. (no_at (at i) ∷ yes_at (at (i - 1)) ∷ []) ∷ [])
