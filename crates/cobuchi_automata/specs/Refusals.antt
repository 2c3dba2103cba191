-- When a formula has no automaton within the limits.
use Rattle.std.specs.Prelude.{◌≡◌, ℕ, suc, ⊤, Bool, List, length, None, Some, Contains}
use Rattle.std.specs.List.{AllByRecursion}
use Rattle.base_library.specs.Once.{StandOnce}
use Rattle.ltl_formula.specs.LtlTree.{LtlTree}
use Rattle.obligations.specs.Expansion.{ChoiceTree, choices}
use Rattle.obligations.specs.declared.step_error.StepError.{StepError}
use Rattle.obligations.specs.declared.step_error.StepError.TheVariants.{Choices, NoMemory}
use Rattle.cobuchi_automata.specs.declared.build_error.BuildError.{BuildError}
use Rattle.cobuchi_automata.specs.declared.build_error.BuildError.TheVariants as builds
use Rattle.cobuchi_automata.specs.declared.build_error.TheConstants.{MOST_AUTOMATON_STATES, MOST_AUTOMATON_EDGES}
use Rattle.cobuchi_automata.specs.Automata.{StateTree, untils_of, state_after, edge_of, IsReached}

-- how many states and how many edges an automaton may have
abbrev pub most_automaton_states : ℕ
most_automaton_states = MOST_AUTOMATON_STATES

abbrev pub most_automaton_edges : ℕ
most_automaton_edges = MOST_AUTOMATON_EDGES

-- the refusal of a set's choices as a refusal of an automaton
abbrev pub build_error : StepError → BuildError
build_error Choices = builds.Choices
build_error NoMemory = builds.NoMemory

-- a reached state whose set has no choices, since a list that is formed on the way has too many members
pub record HasTooManyChoices (f : LtlTree) : Type 0 where
  pub state : StateTree
  pub reached : IsReached f state
  pub none : choices state.set ≡ None

-- one state more than there may be, each of them reached
pub record HasTooManyStates (f : LtlTree) : Type 0 where
  pub states : List StateTree
  pub many : length states ≡ suc most_automaton_states
  pub reached : AllByRecursion (IsReached f) states
  pub once : StandOnce states

-- an edge between states themselves, whatever their numbers
pub record Transition : Type 0 where
  pub from : StateTree
  pub care : ℕ
  pub want : ℕ
  pub to : StateTree
  pub rejecting : Bool

-- the edge of a choice of a state's set, between states themselves
abbrev pub transition_of : List LtlTree → StateTree → ChoiceTree → Transition
transition_of untils s c = record {
  from = s;
  care = c.care;
  want = c.want;
  to = state_after untils s c;
  rejecting = (edge_of untils 0 s c 0).rejecting;
}

-- a transition is that of a choice of a reached state's set
pub record IsTransition (f : LtlTree) (t : Transition) : Type 0 where
  pub reached : IsReached f t.from
  pub choices_here : List ChoiceTree
  pub are_choices : choices t.from.set ≡ Some choices_here
  pub choice : ChoiceTree
  pub chosen : Contains choices_here choice
  pub is : t ≡ transition_of (untils_of f) t.from choice

-- one edge more than there may be, each of them of a choice
pub record HasTooManyEdges (f : LtlTree) : Type 0 where
  pub transitions : List Transition
  pub many : length transitions ≡ suc most_automaton_edges
  pub of_choices : AllByRecursion (IsTransition f) transitions
  pub once : StandOnce transitions

-- what a refusal says: its limit is passed
abbrev pub HasBuildCause : LtlTree → BuildError → Type 0
HasBuildCause f builds.Choices = HasTooManyChoices f
HasBuildCause f builds.States = HasTooManyStates f
HasBuildCause f builds.Edges = HasTooManyEdges f
HasBuildCause f builds.NoMemory = ⊤
