-- Unit propagation, over lists of the literals that are true. A literal is false where its negation is
-- true. Reverse unit propagation is that of E. Goldberg and Y. Novikov, Verification of Proofs of
-- Unsatisfiability for CNF Formulas, 2003.
use Rattle.std.specs.Prelude.{◌≡◌, ◌≢◌, ℕ, Bool, false, not, List, [], ◌∷◌, ◌++◌, map, filter, Contains}
use Rattle.std.specs.List.{list_any, list_all}
use Rattle.clause_core.specs.Literals.{Lit, negation, same, has}
use Rattle.clause_core.specs.Clauses.{IsOver, has_pair, is_true}

-- whether an assignment makes each literal of a list true
abbrev pub makes_true : (ℕ → Bool) → List Lit → Bool
makes_true assignment literals = list_all (is_true assignment) literals

-- the literals of a clause that are not false
abbrev pub not_false : List Lit → List Lit → List Lit
not_false trues clause = filter (λ l. not (has trues (negation l))) clause

-- each literal of the clause is false
abbrev pub IsFalse : List Lit → List Lit → Type 0
IsFalse trues clause = not_false trues clause ≡ []

-- the literal is the one of the clause that is neither true nor false, and all others are false
pub record IsUnit (trues clause : List Lit) (l : Lit) : Type 0 where
  pub others_false : not_false trues clause ≡ l ∷ []
  pub unassigned : has trues l ≡ false

-- whether a literal of the clause is true
abbrev pub is_satisfied : List Lit → List Lit → Bool
is_satisfied trues clause = list_any (has trues) clause

-- Unit propagation over the clauses comes from the literals on the left to those on the right: at each
-- turn it makes the one unassigned literal of a clause true whose others are all false.
pub data Reaches (clauses : List (List Lit)) : List Lit → List Lit → Type 0 where
  done : {trues : List Lit} → Reaches clauses trues trues
  turn : {trues later clause : List Lit} {l : Lit} → Contains clauses clause → IsUnit trues clause l → Reaches clauses (l ∷ trues) later →
      Reaches clauses trues later

-- some clause of the list is false
abbrev pub SomeFalse : List (List Lit) → List Lit → Type 0
SomeFalse clauses trues = (clause : List Lit) × Contains clauses clause × IsFalse trues clause

-- no clause is false, and none has one unassigned literal and all others false
pub record IsQuiet (clauses : List (List Lit)) (trues : List Lit) : Type 0 where
  pub none_false : SomeFalse clauses trues → ⊥
  pub none_unit : (clause : List Lit) (l : Lit) → Contains clauses clause → IsUnit trues clause l → ⊥

-- from these literals unit propagation reaches a false clause
abbrev pub ReachesFalse : List (List Lit) → List Lit → Type 0
ReachesFalse clauses start = (trues : List Lit) × Reaches clauses start trues × SomeFalse clauses trues

-- with the literals of the clause made false, unit propagation reaches a false clause
abbrev pub HasReversePropagation : List (List Lit) → List Lit → Type 0
HasReversePropagation clauses clause = ReachesFalse clauses (map negation clause)

-- Unit propagation does not find this literal of the clause: with the others made false, it neither
-- reaches a false clause nor makes this one true.
abbrev pub IsNotFound : List (List Lit) → List Lit → Lit → Type 0
IsNotFound clauses clause l =
    (trues : List Lit) → Reaches clauses (map negation (filter (λ m. not (same m l)) clause)) trues →
    (SomeFalse clauses trues → ⊥) × (has trues l ≡ false)

-- a clause that may stand in a trace behind the known ones
pub record IsLearnt (variables : ℕ) (known : List (List Lit)) (clause : List Lit) : Type 0 where
  pub not_empty : clause ≢ []
  pub over : IsOver variables clause
  pub no_pair : has_pair clause ≡ false
  pub found : HasReversePropagation known clause
  pub adds : (l : Lit) × Contains clause l × IsNotFound known clause l

-- The clauses are a trace behind the known ones: each is learnt behind those before it, and unit
-- propagation over all of them reaches no false clause.
abbrev pub IsTrace : ℕ → List (List Lit) → List (List Lit) → Type 0
IsTrace variables known [] = ReachesFalse known [] → ⊥
IsTrace variables known (clause ∷ clauses) = IsLearnt variables known clause × IsTrace variables (known ++ clause ∷ []) clauses
