-- What a contract sees of a trail, and what the calls do to it.
use Rattle.std.specs.Prelude.{◌≡◌, ℕ, ◌+◌, ◌^◌, ◌<◌, min, nat_le, Bool, false, List, [], ◌∷◌, ◌++◌, length, filter, take, Option, Some}
use Rattle.std.specs.Prelude.{None, slice_get, IsSome, All}
use Rattle.clause_core.specs.Literals.{Lit}
use Rattle.clause_core.specs.Clauses.{IsOver, has_pair}
use Rattle.clause_core.specs.Propagation.{IsFalse, IsQuiet}
use Rattle.sat_trail.specs.declared.entries.Entry.{Entry}
use Rattle.sat_trail.specs.Entries.{entry_with, literals_of, level_of, MayStand}

-- how many variables there are, the clauses by their numbers, the entries by their places, the present
-- level, and whether memory ran out in a call
pub record TrailState : Type 0 where
  pub variables : ℕ
  pub clauses : List (List Lit)
  pub entries : List Entry
  pub level : ℕ
  pub broken : Bool

-- what holds of every trail
pub record IsSound (t : TrailState) : Type 0 where
  pub few_variables : t.variables < 2 ^ 31
  pub few_clauses : length t.clauses < 2 ^ 32
  pub over : All (IsOver t.variables) t.clauses
  pub no_pairs : All (λ clause. has_pair clause ≡ false) t.clauses
  pub stand : (place : ℕ) (e : Entry) → slice_get t.entries place ≡ Some e → MayStand t.variables t.clauses (take place t.entries) e
  pub level_reached : t.level ≡ level_of t.entries

-- no literal is set, at level 0
abbrev pub started : ℕ → List (List Lit) → TrailState
started variables clauses = record { variables = variables; clauses = clauses; entries = []; level = 0; broken = false }

-- the trail with this entry at the next place, whose level is then the present one
abbrev pub extended : TrailState → Entry → TrailState
extended t e = record t { entries = t.entries ++ e ∷ []; level = e.level }

-- the next level is opened with its literal
abbrev pub decided : TrailState → Lit → TrailState
decided t l = extended t (entry_with l (t.level + 1) None)

-- the clause stands at the end
abbrev pub with_clause : TrailState → List Lit → TrailState
with_clause t clause = record t { clauses = t.clauses ++ clause ∷ [] }

-- the entries of levels up to this one
abbrev pub up_to : ℕ → List Entry → List Entry
up_to level entries = filter (λ e. nat_le e.level level) entries

-- what is above the level is taken back
abbrev pub undone : TrailState → ℕ → TrailState
undone t level = record t { entries = up_to level t.entries; level = min level t.level }

-- Only entries at the next places are new. They are of the present level, and each has a reason.
pub record Propagates (old new : TrailState) : Type 0 where
  pub added : List Entry
  pub rest_stays : new ≡ record old { entries = old.entries ++ added }
  pub forced : All (λ e. (e.level ≡ old.level) × IsSome e.reason) added

-- the clause of this number is false
pub record IsFalseAt (t : TrailState) (number : ℕ) : Type 0 where
  pub clause : List Lit
  pub named : slice_get t.clauses number ≡ Some clause
  pub is_false : IsFalse (literals_of t.entries) clause

-- what a propagation ends with: a clause that is false, or none, and then no clause is false or has one
-- unassigned literal and all others false
abbrev pub EndsWith : Option ℕ → TrailState → Type 0
EndsWith (Some number) t = IsFalseAt t number
EndsWith None t = IsQuiet t.clauses (literals_of t.entries)
