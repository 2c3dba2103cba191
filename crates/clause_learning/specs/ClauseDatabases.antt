-- Internal to the solver: no clause of a public function of `sat_core` uses these words.
-- The clauses on a trail by their numbers in the log. A trail may lack clauses that the log has.
use Rattle.std.specs.Prelude.{◌≡◌, ℕ, ◌-◌, ◌≤◌, List, ◌++◌, map, length, Some, slice_get, slice_index_or, All, Contains}
use Rattle.clause_core.specs.Literals.{Lit}
use Rattle.sat_trail.specs.States.{TrailState, started}
use Rattle.base_library.specs.Numbers.{numbers_from}
use Rattle.clause_learning.specs.declared.clause_database.ClauseDatabase.{ClauseDatabase}

-- The numbers in the log of the clauses on a trail, in their order. Those of the formula stand first, and have the numbers from 1 on.
abbrev pub numbers_of : ClauseDatabase → List ℕ
numbers_of database = numbers_from 1 database.formula ++ map (λ learnt. learnt.number) database.learnt.items

-- the number in the log of the clause that a hint names on the trail
abbrev pub log_number : List ℕ → ℕ → ℕ
log_number numbers hint = slice_index_or numbers (hint - 1) 0

-- hints that name clauses on the trail, as hints of the log
abbrev pub log_hints : List ℕ → List ℕ → List ℕ
log_hints numbers hints = map (log_number numbers) hints

-- each clause on the trail has a number, which names it among all clauses of the log
pub record AreLogNumbers (known clauses : List (List Lit)) (numbers : List ℕ) : Type 0 where
  pub one_each : length numbers ≡ length clauses
  pub each : (place number : ℕ) → slice_get numbers place ≡ Some number →
      (1 ≤ number) × (number ≤ length known) × (slice_get known (number - 1) ≡ slice_get clauses place)

-- the numbers of the first clauses: from 1 on, one after another
abbrev pub AreFirst : ℕ → ClauseDatabase → Type 0
AreFirst count database = numbers_of database ≡ numbers_from 1 count

-- So many clauses of a trail were looked at. Those of the formula are kept, and these others, with their numbers.
pub record AreKept (formula clauses : List (List Lit)) (numbers : List ℕ) (looked : ℕ) (others : List (List Lit)) (database : ClauseDatabase) :
    Type 0 where
  pub stood : All (Contains clauses) others
  pub fewer : length (formula ++ others) ≤ looked
  pub named : (later : List (List Lit)) → AreLogNumbers (formula ++ later) clauses numbers →
      AreLogNumbers (formula ++ later) (formula ++ others) (numbers_of database)

-- a trail begins with the clauses of the formula and some of the others that stood on the old one
pub record BeginsAnew (variables : ℕ) (formula : List (List Lit)) (old : TrailState) (numbers : List ℕ) (new : TrailState) (database : ClauseDatabase) :
    Type 0 where
  pub others : List (List Lit)
  pub kept : AreKept formula old.clauses numbers (length old.clauses) others database
  pub trail_is : new ≡ started variables (formula ++ others)
