-- What stands at the places of a trail. The terms are those of N. Eén and N. Sörensson, An Extensible
-- SAT-solver, 2003.
use Rattle.std.specs.Prelude.{◌≡◌, ℕ, suc, ◌+◌, ◌<◌, ◌==◌, Bool, true, false, cond, List, [], ◌∷◌, map, Option, Some, None, slice_get}
use Rattle.std.specs.Prelude.{MatchOption}
use Rattle.clause_core.specs.Literals.{Lit, negation, has}
use Rattle.clause_core.specs.Propagation.{not_false}
use Rattle.sat_trail.specs.declared.entries.Entry.{Entry}

-- a literal, the level at which it is set, and the number of its reason
abbrev pub entry_with : Lit → ℕ → Option ℕ → Entry
entry_with l level reason = record { literal = l; level = level; reason = reason }

-- the literals that are set
abbrev pub literals_of : List Entry → List Lit
literals_of entries = map (λ e. e.literal) entries

-- the level of the last entry; the one given where there is none
abbrev pub last_level : ℕ → List Entry → ℕ
last_level level [] = level
last_level level (e ∷ es) = last_level e.level es

-- the level that the entries have reached
abbrev pub level_of : List Entry → ℕ
level_of entries = last_level 0 entries

-- the place of a variable's entry, by the variable's index, where the first entry stands at this place
abbrev pub place_from : ℕ → List Entry → ℕ → Option ℕ
place_from place [] index = None
place_from place (e ∷ es) index = cond (e.literal.index == index) (Some place) (place_from (suc place) es index)

-- the place of a variable's entry; none where the variable is unassigned
abbrev pub place_of : List Entry → ℕ → Option ℕ
place_of entries index = place_from 0 entries index

-- the truth of a literal; none where its variable is unassigned
abbrev pub truth_of : List Entry → Lit → Option Bool
truth_of entries l =
    cond (has (literals_of entries) l) (Some true) (cond (has (literals_of entries) (negation l)) (Some false) None)

-- the clause of this number has the literal, and the entries make its other literals false
pub record IsForced (clauses : List (List Lit)) (entries : List Entry) (number : ℕ) (l : Lit) : Type 0 where
  pub clause : List Lit
  pub named : slice_get clauses number ≡ Some clause
  pub others_false : not_false (literals_of entries) clause ≡ l ∷ []

-- An entry may stand behind others: its variable is one of the first ones and is not set by them. A
-- decided literal begins the next level; another one stays at the level, and has a reason.
pub record MayStand (variables : ℕ) (clauses : List (List Lit)) (earlier : List Entry) (e : Entry) : Type 0 where
  pub over : e.literal.index < variables
  pub unset : place_of earlier e.literal.index ≡ None
  pub cause : MatchOption e.reason (e.level ≡ level_of earlier + 1)
      (λ number. (e.level ≡ level_of earlier) × IsForced clauses earlier number e.literal)
