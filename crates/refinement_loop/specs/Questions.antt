-- The questions that are asked for a specification under windows: whether a controller over its bits with so many states has an
-- annotation within a bound for an automaton of the negation of the formula, and whether an environment has one for an automaton
-- of the formula itself.
-- Source: Schewe, Finkbeiner: Bounded Synthesis (ATVA 2007); Finkbeiner, Schewe: Bounded Synthesis (STTT 2013), the dual question;
-- Finkbeiner, Klein, Piskac, Santolucito: Temporal Stream Logic: Synthesis Beyond the Bools (CAV 2019).
use Rattle.std.specs.Prelude.{◌≡◌, ℕ, ◌*◌, ◌≤◌, List, length, Option}
use Rattle.tsl_terms.specs.SpecTree.{SpecTree}
use Rattle.tsl_terms.specs.Signals.{inputs_of, cells_of, outputs_of}
use Rattle.tsl_terms.specs.WindowTree.{WindowTree}
use Rattle.program_tree.specs.ProgramTree.{ProgramTree}
use Rattle.letter_space.specs.SpecSpace.{spec_space}
use Rattle.cobuchi_automata.specs.Automata.{StateTree, IsAutomaton}
use Rattle.cobuchi_automata.specs.Refusals.{most_automaton_states, most_automaton_edges}
use Rattle.machines.specs.declared.side.Side.{Side}
use Rattle.machines.specs.declared.side.Side.TheVariants.{Controller, Environment}
use Rattle.machines.specs.MachineTree.{ControllerTree, EnvironmentTree}
use Rattle.control_flow_model.specs.Flow.{IsFlowOf}
use Rattle.program_check.specs.Verdicts.{HasFewBits, form_for}
use Rattle.refutation_check.specs.declared.limits.TheConstants.{MOST_CLAUSES}
use Rattle.bounded_encoding.specs.Question.{QuestionTree, IsSolution, HasNoController}
use Rattle.bounded_encoding.specs.Encoding.{encoding}
use Rattle.counterstrategy.specs.EnvironmentQuestion.{IsEnvironmentSolution, HasNoEnvironment}
use Rattle.counterstrategy.specs.DualAnswers.{IsAskable}
use Rattle.refinement_loop.specs.declared.outcome.Bound.{Bound}
use Rattle.refinement_loop.specs.declared.outcome.Bound.TheVariants.{Fixed, Full}

-- the bound of a question for machines with so many states, whose automaton has so many: the number that was named; or the full
-- bound, which is the product of both
abbrev pub bound_under : Bound → ℕ → ℕ → ℕ
bound_under (Fixed number) states automaton_states = number
bound_under Full states automaton_states = states * automaton_states

-- The question of a side: whether a machine of it over the bits of the specification, with so many states, has an annotation within
-- a bound, for an automaton within the limits of the side's formula.
pub record IsAsked (side : Side) (spec : SpecTree) (windows : List WindowTree) (states : ℕ) (bound : Bound)
    (q : QuestionTree) : Type 0 where
  pub few_bits : HasFewBits spec
  pub space : q.space ≡ spec_space spec
  pub automaton_states : List StateTree
  pub automaton : IsAutomaton (form_for side spec windows) automaton_states q.edges
  pub counted : length automaton_states ≡ q.automaton_states
  pub few_automaton_states : q.automaton_states ≤ most_automaton_states
  pub few_edges : length q.edges ≤ most_automaton_edges
  pub has_states : q.states ≡ states
  pub has_bound : q.bound ≡ bound_under bound states q.automaton_states

-- the question for a controller has no more clauses than there may be
abbrev pub HasFewClauses : QuestionTree → Type 0
HasFewClauses q = length (encoding q) ≤ MOST_CLAUSES

-- the question of a side is within the limits of its encoding
abbrev pub IsEncodable : Side → QuestionTree → Type 0
IsEncodable Controller q = HasFewClauses q
IsEncodable Environment q = IsAskable q

-- the number is the bound of a question for a controller
pub record IsItsBound (spec : SpecTree) (windows : List WindowTree) (states : ℕ) (bound : Bound) (number : ℕ) : Type 0 where
  pub question : QuestionTree
  pub asked : IsAsked Controller spec windows states bound question
  pub is : question.bound ≡ number

-- a controller answers the question
pub record HasSolution (spec : SpecTree) (windows : List WindowTree) (states : ℕ) (bound : Bound) : Type 0 where
  pub question : QuestionTree
  pub asked : IsAsked Controller spec windows states bound question
  pub controller : ControllerTree
  pub number : ℕ → ℕ → Option ℕ
  pub solution : IsSolution question controller number

-- the question can be asked, and no controller answers it, in whichever order the automaton's states and edges are numbered
pub record HasNoSolution (spec : SpecTree) (windows : List WindowTree) (states : ℕ) (bound : Bound) : Type 0 where
  pub question : QuestionTree
  pub asked : IsAsked Controller spec windows states bound question
  pub few : HasFewClauses question
  pub none : (q : QuestionTree) → IsAsked Controller spec windows states bound q → HasNoController q

-- the program is that of a controller that answers the question, with the signals of the specification and these windows
pub record IsWrittenFor (spec : SpecTree) (windows : List WindowTree) (states : ℕ) (bound : Bound) (program : ProgramTree) : Type 0 where
  pub question : QuestionTree
  pub asked : IsAsked Controller spec windows states bound question
  pub few : HasFewClauses question
  pub controller : ControllerTree
  pub number : ℕ → ℕ → Option ℕ
  pub solution : IsSolution question controller number
  pub flow : IsFlowOf controller (spec_space spec) (inputs_of spec) (cells_of spec) (outputs_of spec) windows program

-- an environment answers the question
pub record IsCounterstrategy (spec : SpecTree) (windows : List WindowTree) (states : ℕ) (bound : Bound) (e : EnvironmentTree) : Type 0 where
  pub question : QuestionTree
  pub asked : IsAsked Environment spec windows states bound question
  pub limits : IsAskable question
  pub number : ℕ → ℕ → Option ℕ
  pub solution : IsEnvironmentSolution question e number

-- the question can be asked, and no environment answers it, in whichever order the automaton's states and edges are numbered
pub record HasNoCounterstrategy (spec : SpecTree) (windows : List WindowTree) (states : ℕ) (bound : Bound) : Type 0 where
  pub question : QuestionTree
  pub asked : IsAsked Environment spec windows states bound question
  pub limits : IsAskable question
  pub none : (q : QuestionTree) → IsAsked Environment spec windows states bound q → HasNoEnvironment q
