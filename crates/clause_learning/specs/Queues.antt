-- Internal to the solver: no clause of a public function of `sat_core` uses these words.
-- The queue of the variables that may be decided.
use Rattle.std.specs.Prelude.{◌≡◌, ℕ, ◌+◌, ◌/◌, ◌^◌, ◌<◌, ◌≤◌, Bool, ◌==◌, ◌||◌, ◌⊎◌, not, true, cond, nat_lt, List, length, slice_index_or}
use Rattle.clause_learning.specs.declared.queue.VariableQueue.{VariableQueue}
use Rattle.clause_learning.specs.declared.tournament.Rank.{Rank}
use Rattle.clause_learning.specs.declared.tournament.Tournament.{Tournament}
use Rattle.clause_learning.specs.declared.numbers.NumberSet.{NumberSet}
use Rattle.clause_learning.specs.Tournaments.{IsTournament, is_before, weight}
use Rattle.clause_learning.specs.NumberSets.{IsNumberSet, contains, room}

-- how many variables there are
abbrev pub variable_count : VariableQueue → ℕ
variable_count queue = length queue.activities.items

-- how active a variable is
abbrev pub activity_of : VariableQueue → ℕ → ℕ
activity_of queue variable = slice_index_or queue.activities.items variable 0

-- by what variables are put in order
abbrev pub rank_of : VariableQueue → ℕ → Rank
rank_of queue variable = record { activity = activity_of queue variable; variable = variable }

-- whether a variable may be decided
abbrev pub is_queued : VariableQueue → ℕ → Bool
is_queued queue variable = not (weight queue.active variable == 0) || contains queue.inactive variable

-- those of activity 0 are in the set, the others in the tournament
pub record AreQueued (ranks : Tournament) (numbers : NumberSet) (activities : List ℕ) : Type 0 where
  pub few : length activities < 2 ^ 31
  pub tournament : IsTournament ranks
  pub leaf_each : ranks.leaves ≡ length activities + 1
  pub set : IsNumberSet numbers
  pub bit_each : length activities ≤ room numbers
  pub active : (variable : ℕ) → (weight ranks variable ≡ 0) ⊎ (weight ranks variable ≡ slice_index_or activities variable 0)
  pub inactive : (variable : ℕ) → contains numbers variable ≡ true →
      (variable < length activities) × (slice_index_or activities variable 0 ≡ 0)

abbrev pub IsQueue : VariableQueue → Type 0
IsQueue queue = AreQueued queue.active queue.inactive queue.activities.items

-- the largest activity
abbrev pub limit : ℕ
limit = 2 ^ 60

-- activities and what a bump adds are at most this
pub record AreBounded (bound : ℕ) (queue : VariableQueue) : Type 0 where
  pub activities : (variable : ℕ) → activity_of queue variable ≤ bound
  pub increment : queue.increment ≤ bound

-- what holds of a queue between the calls
pub record IsVariableQueue (q : VariableQueue) : Type 0 where
  pub queue : IsQueue q
  pub bounded : AreBounded limit q

-- the variables are the same ones, and so are those that may be decided
pub record KeepsVariables (old new : VariableQueue) : Type 0 where
  pub count : variable_count new ≡ variable_count old
  pub same : (other : ℕ) → is_queued new other ≡ is_queued old other

-- the next one to be decided: of all others that may be the more active one, or as active and of the smaller number
pub record IsNext (queue : VariableQueue) (variable : ℕ) : Type 0 where
  pub queued : is_queued queue variable ≡ true
  pub first : (other : ℕ) → is_queued queue other ≡ true → (other ≡ variable → ⊥) →
      is_before (rank_of queue variable) (rank_of queue other) ≡ true

-- what is left of an activity, and of what a bump adds, where one has passed the limit
abbrev pub scaled : ℕ → ℕ
scaled activity = activity / 2 ^ 40

-- a number beside a variable's new activity: all are scaled where that has passed the limit
abbrev pub beside : ℕ → ℕ → ℕ
beside activity number = cond (nat_lt limit activity) (scaled number) number

-- this is the activity of one variable, and the others' are as before, but that all are scaled where it has passed the limit
pub record IsActive (old : VariableQueue) (variable activity : ℕ) (new : VariableQueue) : Type 0 where
  pub same_count : variable_count new ≡ variable_count old
  pub same_variables : (other : ℕ) → is_queued new other ≡ is_queued old other
  pub here : activity_of new variable ≡ beside activity activity
  pub elsewhere : (other : ℕ) → (other ≡ variable → ⊥) → activity_of new other ≡ beside activity (activity_of old other)
  pub increment : new.increment ≡ beside activity old.increment
