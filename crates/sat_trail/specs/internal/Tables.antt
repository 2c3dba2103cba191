-- Internal: only private functions of this crate use these words. Tables of what is set, by variables and by literals, and
-- what a clause must be to be learnt.
use Rattle.std.specs.Prelude.{◌≡◌, ℕ, ◌+◌, ◌*◌, ◌^◌, ◌<◌, Bool, false, List, length, Option, Some, slice_get}
use Rattle.clause_core.specs.Literals.{Lit, has, code_of}
use Rattle.clause_core.specs.Clauses.{IsOver, has_pair}
use Rattle.sat_trail.specs.declared.entries.Entry.{Entry}
use Rattle.sat_trail.specs.Entries.{literals_of, place_of}
use Rattle.sat_trail.specs.States.{TrailState}

-- the table has the place of each variable's entry, by the variable's index
pub record IsPlaceTable (variables : ℕ) (places : List (Option ℕ)) (entries : List Entry) : Type 0 where
  pub all : length places ≡ variables
  pub each : (index : ℕ) → index < variables → slice_get places index ≡ Some (place_of entries index)

-- the table has the truth of each literal, by the literal's code
pub record AreTruths (variables : ℕ) (truths : List Bool) (entries : List Entry) : Type 0 where
  pub all : length truths ≡ 2 * variables
  pub each : (l : Lit) → l.index < variables → slice_get truths (code_of l) ≡ Some (has (literals_of entries) l)

-- the clause can be added: memory has not run out, it is over the trail's variables, has no opposite literals, and gets a number
pub record MayLearn (t : TrailState) (clause : List Lit) : Type 0 where
  pub usable : t.broken ≡ false
  pub over : IsOver t.variables clause
  pub no_pair : has_pair clause ≡ false
  pub few : length t.clauses + 1 < 2 ^ 32
