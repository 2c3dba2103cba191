-- What is answered to a specification, and why nothing is. Every answer comes with the rounds that were made, which are a chain: the
-- program of a controller under their windows; that there is no such controller, with the reason why no further round is made; or
-- the trace on which a budget was spent.
-- Source: Schewe, Finkbeiner: Bounded Synthesis (ATVA 2007); Finkbeiner, Klein, Piskac, Santolucito: Temporal Stream Logic:
-- Synthesis Beyond the Bools (CAV 2019), the approximation in linear temporal logic and its refinement.
use Rattle.std.specs.Prelude.{◌≡◌, ℕ, ◌<◌, ◌≤◌, List, [], map, length, ⊤}
use Rattle.tsl_terms.specs.SpecTree.{SpecTree}
use Rattle.tsl_terms.specs.Signals.{cells_of}
use Rattle.tsl_terms.specs.WindowTree.{WindowTree}
use Rattle.tsl_terms.specs.Equality.{equality_in}
use Rattle.program_tree.specs.ProgramTree.{ProgramTree}
use Rattle.program_tree.specs.ProgramView.{program_tree}
use Rattle.letter_space.specs.declared.space_error.SpaceError.TheVariants as spaces
use Rattle.letter_space.specs.SpecSpace.{spec_space, HasSpaceCause}
use Rattle.cobuchi_automata.specs.Automata.{EdgeTree}
use Rattle.cobuchi_automata.specs.Edges.{edge_trees}
use Rattle.cobuchi_automata.specs.Refusals.{HasTooManyChoices, HasTooManyStates, HasTooManyEdges}
use Rattle.machines.specs.declared.side.Side.{Side}
use Rattle.machines.specs.declared.side.Side.TheVariants.{Controller, Environment}
use Rattle.machines.specs.MachineTree.{EnvironmentTree}
use Rattle.machines.specs.MachineView.{environment_tree, round_tree}
use Rattle.machines.specs.Rounds.{RoundTree, windows_of}
use Rattle.program_check.specs.declared.verdict.CheckError.{CheckError}
use Rattle.program_check.specs.declared.verdict.CheckError.TheVariants as checks
use Rattle.program_check.specs.declared.verdict.Limit.{Limit}
use Rattle.program_check.specs.declared.verdict.Limit.TheVariants as limits
use Rattle.program_check.specs.Verdicts.{HasFewBits, form_for}
use Rattle.clause_core.specs.Literals.{Lit}
use Rattle.refutation_check.specs.declared.limits.TheConstants.{MOST_CLAUSES}
use Rattle.sat_core.specs.Answers.{IsWholeTrace}
use Rattle.bounded_encoding.specs.Question.{QuestionTree}
use Rattle.bounded_encoding.specs.Variables.{variable_count}
use Rattle.bounded_encoding.specs.Encoding.{encoding}
use Rattle.counterstrategy.specs.declared.dual_error.DualError.{DualError}
use Rattle.counterstrategy.specs.declared.dual_error.DualError.TheVariants as duals
use Rattle.counterstrategy.specs.DualVariables.{dual_variable_count}
use Rattle.counterstrategy.specs.DualEncoding.{dual_encoding}
use Rattle.counterstrategy.specs.DualAnswers.{HasDualCause}
use Rattle.branch_finder.specs.Finding.{HasNoSpuriousWindow, branch_count}
use Rattle.branch_finder.specs.declared.limits.TheConstants.{MOST_BRANCHES}
use Rattle.refinement_loop.specs.Questions.{IsItsBound, IsAsked, IsEncodable, HasNoSolution, IsWrittenFor, IsCounterstrategy}
use Rattle.refinement_loop.specs.Questions.{HasNoCounterstrategy}
use Rattle.refinement_loop.specs.Chains.{IsChain}
use Rattle.refinement_loop.specs.declared.errors.RefineError.{RefineError}
use Rattle.refinement_loop.specs.declared.errors.RefineError.TheVariants as refines
use Rattle.refinement_loop.specs.declared.outcome.Bound.{Bound}
use Rattle.refinement_loop.specs.declared.outcome.Bound.TheVariants.{Fixed}
use Rattle.refinement_loop.specs.declared.outcome.Search.{Search}
use Rattle.refinement_loop.specs.declared.outcome.Sizes.{Sizes}
use Rattle.refinement_loop.specs.declared.outcome.Reason.{Reason}
use Rattle.refinement_loop.specs.declared.outcome.Reason.TheVariants.{Rounds, NoCounter, Genuine}
use Rattle.refinement_loop.specs.declared.outcome.Outcome.{Outcome}
use Rattle.refinement_loop.specs.declared.outcome.Outcome.TheVariants as outcomes

-- the search that these sizes ask for, with a bound in place of their own
abbrev pub search_with : Sizes → Bound → Search
search_with sizes bound = record {
  states = sizes.states;
  bound = bound;
  env_states = sizes.env_states;
  env_bound = sizes.env_bound;
  depth = sizes.depth;
  rounds = sizes.rounds;
  budget = sizes.budget;
}

-- each size of a search lies in its range, whatever the bound
pub record IsInRange (search : Search) : Type 0 where
  pub has_state : 1 ≤ search.states
  pub few_states : search.states ≤ 8
  pub has_env_state : 1 ≤ search.env_states
  pub few_env_states : search.env_states ≤ 8
  pub small_env_bound : search.env_bound ≤ 15
  pub has_depth : 1 ≤ search.depth
  pub small_depth : search.depth ≤ 3
  pub few_rounds : search.rounds ≤ 64
  pub has_budget : 1 ≤ search.budget
  pub small_budget : search.budget ≤ 1000000

-- how far a search may go: each size lies in its range
pub record AreInRange (sizes : Sizes) : Type 0 where
  pub small_bound : sizes.bound ≤ 15
  pub others : IsInRange (search_with sizes (Fixed sizes.bound))

-- fewer windows were found than rounds may be made
abbrev pub MayGoOn : Search → List WindowTree → Type 0
MayGoOn search windows = length windows < search.rounds

-- no controller answers its question under the windows, and a further round may be made
pub record GoesOn (spec : SpecTree) (search : Search) (windows : List WindowTree) : Type 0 where
  pub none : HasNoSolution spec windows search.states search.bound
  pub fewer : MayGoOn search windows

-- such an environment has an annotation, there are not too many branches to look for a window, and no congruent window that is short
-- enough is spurious in it
pub record IsGenuine (spec : SpecTree) (search : Search) (windows : List WindowTree) (e : EnvironmentTree) : Type 0 where
  pub counterstrategy : IsCounterstrategy spec windows search.env_states (Fixed search.env_bound) e
  pub few_branches : branch_count (spec_space spec) search.depth ≤ MOST_BRANCHES
  pub no_window : HasNoSpuriousWindow (spec_space spec) e (cells_of spec) (equality_in spec.names) search.depth

-- why no further round is made, where no controller answers its question: as many were made as may be; or fewer, and either there
-- is no such environment, or there is one in which no window is spurious
abbrev pub HasReason : SpecTree → Search → List WindowTree → Reason → Type 0
HasReason spec search windows Rounds = length windows ≡ search.rounds
HasReason spec search windows NoCounter = MayGoOn search windows × HasNoCounterstrategy spec windows search.env_states (Fixed search.env_bound)
HasReason spec search windows (Genuine e) = MayGoOn search windows × IsGenuine spec search windows (environment_tree e)

-- the clauses are a trace of so many that the encoding of the question of a side leads to
abbrev pub IsTraceFor : Side → QuestionTree → ℕ → List (List Lit) → Type 0
IsTraceFor Controller q budget clauses = IsWholeTrace (variable_count q) (encoding q) budget clauses
IsTraceFor Environment q budget clauses = IsWholeTrace (dual_variable_count q) (dual_encoding q) budget clauses

-- the question's automaton has so many states and these edges, and the clauses are a trace of its encoding
pub record IsSpentOn (side : Side) (spec : SpecTree) (windows : List WindowTree) (states : ℕ) (bound : Bound) (budget automaton_states : ℕ)
    (edges : List EdgeTree) (clauses : List (List Lit)) : Type 0 where
  pub question : QuestionTree
  pub asked : IsAsked side spec windows states bound question
  pub limits : IsEncodable side question
  pub has_states : automaton_states ≡ question.automaton_states
  pub has_edges : edges ≡ question.edges
  pub trace : IsTraceFor side question budget clauses

-- the budget is spent on the question of a side: on that for an environment only where a further round may be made
abbrev pub IsSpentIn : SpecTree → Search → List WindowTree → Side → ℕ → List EdgeTree → List (List Lit) → Type 0
IsSpentIn spec search windows Controller automaton_states edges clauses =
    IsSpentOn Controller spec windows search.states search.bound search.budget automaton_states edges clauses
IsSpentIn spec search windows Environment automaton_states edges clauses =
    GoesOn spec search windows
    × IsSpentOn Environment spec windows search.env_states (Fixed search.env_bound) search.budget automaton_states edges clauses

-- what each outcome says, where these windows were found
abbrev pub IsRightUnder : SpecTree → Search → List WindowTree → Outcome → Type 0
IsRightUnder spec search windows (outcomes.Written rounds program) =
    IsWrittenFor spec windows search.states search.bound (program_tree program)
IsRightUnder spec search windows (outcomes.None rounds reason) =
    HasNoSolution spec windows search.states search.bound × HasReason spec search windows reason
IsRightUnder spec search windows (outcomes.Spent rounds side automaton clauses) =
    IsSpentIn spec search windows side automaton.states (edge_trees automaton.edges) clauses

-- the rounds of an outcome
abbrev pub rounds_of : Outcome → List RoundTree
rounds_of (outcomes.Written rounds program) = map round_tree rounds
rounds_of (outcomes.None rounds reason) = map round_tree rounds
rounds_of (outcomes.Spent rounds side automaton clauses) = map round_tree rounds

-- the rounds are a chain, no more than may be made, and under their windows the answer is right
pub record IsOutcome (spec : SpecTree) (search : Search) (outcome : Outcome) : Type 0 where
  pub chain : IsChain spec search (rounds_of outcome)
  pub few_rounds : length (rounds_of outcome) ≤ search.rounds
  pub answer : IsRightUnder spec search (windows_of (rounds_of outcome)) outcome

-- the number is the bound of the question for a controller that is asked under the windows of the outcome's rounds
abbrev pub IsLastBound : SpecTree → Search → Outcome → ℕ → Type 0
IsLastBound spec search outcome number = IsItsBound spec (windows_of (rounds_of outcome)) search.states search.bound number

-- a program, or the trace of a budget that was spent on the question for a controller, before any round
abbrev pub IsFirstAnswer : Outcome → Type 0
IsFirstAnswer (outcomes.Written rounds program) = rounds ≡ []
IsFirstAnswer (outcomes.None rounds reason) = ⊥
IsFirstAnswer (outcomes.Spent rounds side automaton clauses) = (rounds ≡ []) × (side ≡ Controller)

-- what holds of the program, where one is written
abbrev pub IfWritten : Outcome → (ProgramTree → Type 0) → Type 0
IfWritten (outcomes.Written rounds program) P = P (program_tree program)
IfWritten (outcomes.None rounds reason) P = ⊤
IfWritten (outcomes.Spent rounds side automaton clauses) P = ⊤

-- the question for a controller has more clauses than there may be
pub record HasTooManyClauses (spec : SpecTree) (windows : List WindowTree) (states : ℕ) (bound : Bound) : Type 0 where
  pub question : QuestionTree
  pub asked : IsAsked Controller spec windows states bound question
  pub many : MOST_CLAUSES < length (encoding question)

-- The first limit of the question for a controller that is passed: those of bits before those of the automaton, and these before
-- that of clauses.
abbrev pub IsLargeFor : SpecTree → List WindowTree → ℕ → Bound → Limit → Type 0
IsLargeFor spec windows states bound limits.Predicates = HasSpaceCause spec spaces.Predicates
IsLargeFor spec windows states bound limits.Bits = HasSpaceCause spec spaces.Bits
IsLargeFor spec windows states bound limits.Choices = HasFewBits spec × HasTooManyChoices (form_for Controller spec windows)
IsLargeFor spec windows states bound limits.States = HasFewBits spec × HasTooManyStates (form_for Controller spec windows)
IsLargeFor spec windows states bound limits.Edges = HasFewBits spec × HasTooManyEdges (form_for Controller spec windows)
IsLargeFor spec windows states bound limits.Clauses = HasTooManyClauses spec windows states bound
IsLargeFor spec windows states bound limits.Vectors = ⊥
IsLargeFor spec windows states bound limits.Branches = ⊥

-- the question for an environment is refused
pub record HasRefusedQuestion (spec : SpecTree) (windows : List WindowTree) (states : ℕ) (bound : Bound) (cause : DualError) : Type 0 where
  pub question : QuestionTree
  pub asked : IsAsked Environment spec windows states bound question
  pub refused : HasDualCause question cause

-- there is an environment, and too many branches would have to be looked at for a window
pub record HasTooManyBranches (spec : SpecTree) (search : Search) (windows : List WindowTree) : Type 0 where
  pub environment : EnvironmentTree
  pub counterstrategy : IsCounterstrategy spec windows search.env_states (Fixed search.env_bound) environment
  pub many : MOST_BRANCHES < branch_count (spec_space spec) search.depth

-- The first limit of a further round that is passed: those of the environment's automaton, then that of vectors, then that of
-- clauses, and last that of branches.
abbrev pub IsLargeFurther : SpecTree → Search → List WindowTree → Limit → Type 0
IsLargeFurther spec search windows limits.Predicates = ⊥
IsLargeFurther spec search windows limits.Bits = ⊥
IsLargeFurther spec search windows limits.Choices = HasTooManyChoices (form_for Environment spec windows)
IsLargeFurther spec search windows limits.States = HasTooManyStates (form_for Environment spec windows)
IsLargeFurther spec search windows limits.Edges = HasTooManyEdges (form_for Environment spec windows)
IsLargeFurther spec search windows limits.Clauses = HasRefusedQuestion spec windows search.env_states (Fixed search.env_bound) duals.Clauses
IsLargeFurther spec search windows limits.Vectors = HasRefusedQuestion spec windows search.env_states (Fixed search.env_bound) duals.Vectors
IsLargeFurther spec search windows limits.Branches = HasTooManyBranches spec search windows

-- a limit that is passed where these windows were found
pub data IsLargeIn (spec : SpecTree) (search : Search) (windows : List WindowTree) (limit : Limit) : Type 0 where
  -- of the question for a controller
  at_controller : IsLargeFor spec windows search.states search.bound limit → IsLargeIn spec search windows limit
  -- of a further round, where there is no controller and such a round may be made
  at_environment : GoesOn spec search windows → IsLargeFurther spec search windows limit → IsLargeIn spec search windows limit

-- the rounds are a chain, no more than may be made, and under their windows the limit is passed
pub record IsLargeAfter (spec : SpecTree) (search : Search) (rounds : List RoundTree) (limit : Limit) : Type 0 where
  pub chain : IsChain spec search rounds
  pub few_rounds : length rounds ≤ search.rounds
  pub large : IsLargeIn spec search (windows_of rounds) limit

-- why nothing is answered to a specification: a limit is passed, or memory ran out
abbrev pub HasRefineCause : SpecTree → Search → RefineError → Type 0
HasRefineCause spec search (refines.Large limit rounds) = IsLargeAfter spec search (map round_tree rounds) limit
HasRefineCause spec search refines.NoMemory = ⊤

-- why the question for a controller has no answer
abbrev pub HasAskCause : SpecTree → List WindowTree → ℕ → Bound → CheckError → Type 0
HasAskCause spec windows states bound (checks.Large limit) = IsLargeFor spec windows states bound limit
HasAskCause spec windows states bound checks.NoMemory = ⊤
