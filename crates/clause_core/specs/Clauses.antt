-- Clauses as lists of literals, and assignments as functions from the variables' indices to truths.
use Rattle.std.specs.Prelude.{◌≡◌, ◌<◌, ℕ, Bool, true, false, not, cond, ◌<ℤ◌, int_lt, List, [], ◌∷◌, ⊤, All, slice_index_or}
use Rattle.std.specs.List.{list_any, list_all, AllByRecursion}
use Rattle.clause_core.specs.Literals.{Lit, signed_number_of, negation, same, has}

-- each literal's number is below the numbers of those after it
abbrev pub IsIncreasing : List Lit → Type 0
IsIncreasing [] = ⊤
IsIncreasing (l ∷ ls) = AllByRecursion (λ m. signed_number_of l <ℤ signed_number_of m) ls × IsIncreasing ls

-- an increasing list with one more literal, at its place; the same list if the literal is in it
abbrev pub with_literal : Lit → List Lit → List Lit
with_literal l [] = l ∷ []
with_literal l (m ∷ ms) = cond (same l m) (m ∷ ms) (cond (int_lt (signed_number_of l) (signed_number_of m)) (l ∷ m ∷ ms)
    (m ∷ with_literal l ms))

-- the literals of a list by rising numbers, each once
abbrev pub in_order : List Lit → List Lit
in_order [] = []
in_order (l ∷ ls) = with_literal l (in_order ls)

-- whether each literal of a clause is in another
abbrev pub is_contained : List Lit → List Lit → Bool
is_contained small large = list_all (has large) small

-- whether a clause has a literal and its negation
abbrev pub has_pair : List Lit → Bool
has_pair clause = list_any (λ l. has clause (negation l)) clause

-- whether the variables of a clause are the first ones
abbrev pub IsOver : ℕ → List Lit → Type 0
IsOver variables clause = All (λ l. l.index < variables) clause

-- whether a literal is true under an assignment
abbrev pub is_true : (ℕ → Bool) → Lit → Bool
is_true assignment l = cond l.positive (assignment l.index) (not (assignment l.index))

-- whether an assignment meets a clause: it makes one of its literals true
abbrev pub meets : (ℕ → Bool) → List Lit → Bool
meets assignment clause = list_any (is_true assignment) clause

-- whether it meets each clause of a list
abbrev pub meets_all : (ℕ → Bool) → List (List Lit) → Bool
meets_all assignment clauses = list_all (meets assignment) clauses

-- no assignment meets all of the clauses
abbrev pub AreUnsatisfiable : List (List Lit) → Type 0
AreUnsatisfiable clauses = (assignment : ℕ → Bool) → meets_all assignment clauses ≡ false

-- each assignment that meets all of the clauses meets this one
abbrev pub Follows : List (List Lit) → List Lit → Type 0
Follows clauses clause = (assignment : ℕ → Bool) → meets_all assignment clauses ≡ true → meets assignment clause ≡ true

-- the assignment of a list of truths, the one of the variable with index i at place i
abbrev pub assignment_of : List Bool → ℕ → Bool
assignment_of truths i = slice_index_or truths i false
