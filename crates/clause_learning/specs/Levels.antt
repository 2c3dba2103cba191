-- Internal to the solver: no clause of a public function of `sat_core` uses these words.
-- Entries of a trail by their levels.
use Rattle.std.specs.Prelude.{◌≡◌, ℕ, ◌<◌, List, Some, slice_get}
use Rattle.clause_core.specs.Literals.{Lit}
use Rattle.clause_core.specs.Propagation.{SomeFalse, IsQuiet}
use Rattle.sat_trail.specs.declared.entries.Entry.{Entry}
use Rattle.sat_trail.specs.Entries.{literals_of}
use Rattle.sat_trail.specs.States.{TrailState, up_to}

-- the literal is set, at this level
pub record IsSetAt (entries : List Entry) (l : Lit) (level : ℕ) : Type 0 where
  pub place : ℕ
  pub entry : Entry
  pub there : slice_get entries place ≡ Some entry
  pub same_literal : entry.literal ≡ l
  pub same_level : entry.level ≡ level

-- for each level below this one, no clause is false by the entries up to that level
abbrev pub AreNoneFalseBelow : TrailState → ℕ → Type 0
AreNoneFalseBelow t n = (level : ℕ) → level < n → SomeFalse t.clauses (literals_of (up_to level t.entries)) → ⊥

-- for each level below this one, unit propagation has nothing left to do behind the entries up to that level
abbrev pub AreQuietBelow : TrailState → ℕ → Type 0
AreQuietBelow t n = (level : ℕ) → level < n → IsQuiet t.clauses (literals_of (up_to level t.entries))
