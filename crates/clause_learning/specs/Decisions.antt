-- Internal to the solver: no clause of a public function of `sat_core` uses these words.
-- The order of decisions, and the assignment that is read off a trail.
use Rattle.std.specs.Prelude.{◌≡◌, ◌≢◌, ℕ, ◌<◌, Bool, true, false, List, length, Some, None, slice_get, slice_index_or, ◌⊎◌, Contains}
use Rattle.clause_core.specs.Literals.{Lit, has}
use Rattle.sat_trail.specs.declared.entries.Entry.{Entry}
use Rattle.sat_trail.specs.Entries.{literals_of, place_of}
use Rattle.sat_trail.specs.States.{TrailState, IsSound, decided}
use Rattle.clause_learning.specs.declared.choices.Decisions.{Decisions}
use Rattle.clause_learning.specs.declared.queue.VariableQueue.{VariableQueue}
use Rattle.clause_learning.specs.Tournaments.{is_before}
use Rattle.clause_learning.specs.Queues.{IsVariableQueue, variable_count, is_queued, rank_of}

-- all of the first variables are set
abbrev pub AreSet : List Entry → ℕ → Type 0
AreSet entries n = (index : ℕ) → index < n → place_of entries index ≢ None

-- one of the first variables, which is not set
pub record IsUnset (entries : List Entry) (variables index : ℕ) : Type 0 where
  pub over : index < variables
  pub unset : place_of entries index ≡ None

-- The rule of decisions: of the variables that are not set it is the most active one, and of two that are as active the one of the
-- smaller number.
pub record IsNextUnset (entries : List Entry) (variables : ℕ) (queue : VariableQueue) (index : ℕ) : Type 0 where
  pub unset : IsUnset entries variables index
  pub first : (other : ℕ) → IsUnset entries variables other → other ≢ index → is_before (rank_of queue index) (rank_of queue other) ≡ true

-- what is decided was decided before and is to be repeated, or it is the next variable, to the value that it had last
abbrev pub IsChosen : List Entry → ℕ → Decisions → Lit → Type 0
IsChosen entries variables d literal = Contains d.repeated.items literal
    ⊎ (IsNextUnset entries variables d.queue literal.index × (literal.positive ≡ slice_index_or d.phases.items literal.index false))

-- each of the variables has an activity and a value to be decided to
pub record AreForEach (variables : ℕ) (activities : VariableQueue) (values : List Bool) : Type 0 where
  pub queue : IsVariableQueue activities
  pub one_activity_each : variable_count activities ≡ variables
  pub one_value_each : length values ≡ variables

-- and each of them is in the queue while it is not set
pub record AreDecisions (variables : ℕ) (entries : List Entry) (d : Decisions) : Type 0 where
  pub each : AreForEach variables d.queue d.phases.items
  pub open each use *
  pub queued : (index : ℕ) → index < variables → place_of entries index ≡ None → is_queued d.queue index ≡ true

-- a variable that was not set is decided
pub record HasDecided (old : TrailState) (before : Decisions) (new : TrailState) (after : Decisions) : Type 0 where
  pub literal : Lit
  pub chosen : IsChosen old.entries old.variables before literal
  pub unset : IsUnset old.entries old.variables literal.index
  pub trail_is : new ≡ decided old literal
  pub sound : IsSound new
  pub decisions : AreDecisions new.variables new.entries after

-- what a decision comes to: a variable is decided, or all are set and nothing changes
abbrev pub Decides : TrailState → Decisions → TrailState → Decisions → Bool → Type 0
Decides old before new after true = HasDecided old before new after
Decides old before new after false = AreSet old.entries old.variables × (new ≡ old)

-- one truth for each variable: whether its positive literal is set
pub record AreVariableTruths (entries : List Entry) (variables : ℕ) (truths : List Bool) : Type 0 where
  pub all : length truths ≡ variables
  pub each : (index : ℕ) → index < variables → slice_get truths index
      ≡ Some (has (literals_of entries) (record { index = index; positive = true }))
