-- What the command `synth` replies.
use Rattle.std.specs.Prelude.{◌≡◌, ℕ, ◌≤◌, List, [], ◌++◌, length, ⊤}
use Rattle.tsl_terms.specs.SpecTree.{SpecTree}
use Rattle.tsl_reader.specs.Spells.{Spells}
use Rattle.program_tree.specs.ProgramTree.{ProgramTree}
use Rattle.flow_program.specs.ProgramText.{ProgramText}
use Rattle.tsl_meaning.specs.Promise.{Realizes}
use Rattle.letter_space.specs.SpecSpace.{spec_space}
use Rattle.cobuchi_automata.specs.Automata.{EdgeTree}
use Rattle.machines.specs.declared.side.Side.{Side}
use Rattle.machines.specs.declared.side.Side.TheVariants.{Controller, Environment}
use Rattle.machines.specs.Rounds.{RoundTree, windows_of}
use Rattle.clause_core.specs.Literals.{Lit}
use Rattle.program_check.specs.declared.verdict.Limit.{Limit}
use Rattle.program_check.specs.declared.verdict.Verdict.TheVariants.{Yes}
use Rattle.program_check.specs.Verdicts.{IsVerdict}
use Rattle.refinement_loop.specs.declared.outcome.Bound.{Bound}
use Rattle.refinement_loop.specs.declared.outcome.Bound.TheVariants.{Fixed, Full}
use Rattle.refinement_loop.specs.declared.outcome.Search.{Search}
use Rattle.refinement_loop.specs.Questions.{IsItsBound, IsWrittenFor, HasNoSolution, HasNoCounterstrategy}
use Rattle.refinement_loop.specs.Chains.{IsChain}
use Rattle.refinement_loop.specs.Outcomes.{MayGoOn, IsGenuine, IsSpentOn, IsSpentIn, IsLargeAfter}
use Rattle.full_bound.specs.FullBound.{AllFail}
use Rattle.tsl_report.specs.declared.fault.Fault.{Fault}
use Rattle.tsl_report.specs.FaultText.{fault_text}
use Rattle.environment_text.specs.RoundTexts.{rounds_text}
use Rattle.search_text.specs.SearchTexts.{ReasonTree, rounds_made, no_counter, genuine, none_text, spent_text}
use Rattle.tool_io.specs.declared.status.Status.TheVariants.{Done, No, Large, Spent}
use Rattle.tool_io.specs.declared.reply.Reply.{Reply}
use Rattle.command_faults.specs.Refusals.{HasSpecFault, fault_at_limit}
use Rattle.command_faults.specs.Replies.{fault_reply}

-- the rounds are a chain, and no more than may be made
pub record AreRounds (search : Search) (spec : SpecTree) (rounds : List RoundTree) : Type 0 where
  pub chain : IsChain spec search rounds
  pub few : length rounds ≤ search.rounds

-- The text spells a program over the names of the specification, and this program realizes the specification: every closed run of it,
-- under every finite interpretation and every input loop, meets the whole formula and the formula of each window of the program, and
-- each of these windows is congruent. It is the program of a controller with as many states as were asked for, which has an
-- annotation within the bound under these windows, and `check` accepts it with the bound's number. The windows are those of rounds.
pub record IsWritten (search : Search) (spec : SpecTree) (text : List ℕ) : Type 0 where
  pub rounds : List RoundTree
  pub are_rounds : AreRounds search spec rounds
  pub program : ProgramTree
  pub spelled : ProgramText text spec.names program
  pub realizes : Realizes spec program
  pub controlled : IsWrittenFor spec (windows_of rounds) search.states search.bound program
  pub bound : ℕ
  pub has_bound : IsItsBound spec (windows_of rounds) search.states search.bound bound
  pub accepted : IsVerdict spec program bound Yes

-- Why no further round is made, as it is told: as many were made as may be; or fewer, and either no environment of the size has an
-- annotation within its bound under the windows of the rounds, or this one has, and no congruent window up to the depth is spurious in
-- it.
abbrev pub HasReasonTold : Search → SpecTree → List RoundTree → ReasonTree → Type 0
HasReasonTold search spec rounds (rounds_made count) = (count ≡ search.rounds) × (length rounds ≡ count)
HasReasonTold search spec rounds (no_counter states bound) =
    MayGoOn search (windows_of rounds) × (states ≡ search.env_states) × (bound ≡ search.env_bound)
    × HasNoCounterstrategy spec (windows_of rounds) states (Fixed bound)
HasReasonTold search spec rounds (genuine e) = MayGoOn search (windows_of rounds) × IsGenuine spec search (windows_of rounds) e

-- what holds where the bound is the full one
abbrev pub WhereFull : Bound → Type 0 → Type 0
WhereFull (Fixed number) P = ⊤
WhereFull Full P = P

-- Under the windows of these rounds no controller with so many states has an annotation within the bound, and the text says so, with
-- the bound's number, the rounds and the reason why no further one is made. Where the bound is the full one, each controller with so
-- many states has a loop of letters on which the formula under these windows does not hold.
pub record TellsNone (search : Search) (spec : SpecTree) (text : List ℕ) : Type 0 where
  pub rounds : List RoundTree
  pub are_rounds : AreRounds search spec rounds
  pub none : HasNoSolution spec (windows_of rounds) search.states search.bound
  pub failing : WhereFull search.bound (AllFail spec (windows_of rounds) search.states)
  pub bound : ℕ
  pub has_bound : IsItsBound spec (windows_of rounds) search.states search.bound bound
  pub reason : ReasonTree
  pub has_reason : HasReasonTold search spec rounds reason
  pub text_is : text ≡ none_text spec.names (spec_space spec) search.states bound rounds reason

-- the states that the machine of a side has, and the number that bounds its annotation, where this one bounds that of a controller
abbrev pub states_of_side : Search → Side → ℕ
states_of_side search Controller = search.states
states_of_side search Environment = search.env_states

abbrev pub bound_of_side : Search → ℕ → Side → ℕ
bound_of_side search number Controller = number
bound_of_side search number Environment = search.env_bound

-- The budget was spent on a trace of a question under the windows of these rounds: that for a controller, or that for an environment
-- where no controller answers its own and a further round may be made. The text tells the rounds, the question's automaton and the
-- trace, and on the side of a controller the bound's number.
pub record TellsSpent (search : Search) (spec : SpecTree) (text : List ℕ) : Type 0 where
  pub rounds : List RoundTree
  pub are_rounds : AreRounds search spec rounds
  pub bound : ℕ
  pub has_bound : IsItsBound spec (windows_of rounds) search.states search.bound bound
  pub side : Side
  pub automaton_states : ℕ
  pub edges : List EdgeTree
  pub clauses : List (List Lit)
  pub spent : IsSpentIn spec search (windows_of rounds) side automaton_states edges clauses
  pub text_is : text ≡ spent_text spec.names (spec_space spec) side (states_of_side search side) (bound_of_side search bound side) rounds
      automaton_states edges clauses

-- the same of the question for a controller alone, without windows
pub record TellsSpentOn (spec : SpecTree) (states bound budget : ℕ) (text : List ℕ) : Type 0 where
  pub automaton_states : ℕ
  pub edges : List EdgeTree
  pub clauses : List (List Lit)
  pub spent : IsSpentOn Controller spec [] states (Fixed bound) budget automaton_states edges clauses
  pub text_is : text ≡ spent_text spec.names (spec_space spec) Controller states bound [] automaton_states edges clauses

-- what is said where a limit is passed after some rounds: the line of the limit, and the rounds
abbrev pub large_reply : SpecTree → Limit → List RoundTree → Reply
large_reply spec limit rounds =
    record { status = Large; text = fault_text (fault_at_limit limit) ++ rounds_text spec.names (spec_space spec) rounds }

-- what is replied to a specification
pub data SearchOutcome (search : Search) (spec : SpecTree) (reply : Reply) : Type 0 where
  -- a program is written
  written : reply.status ≡ Done → IsWritten search spec reply.text → SearchOutcome search spec reply
  -- no controller of this size has an annotation within the bound, and no further round is made
  told_none : reply.status ≡ No → TellsNone search spec reply.text → SearchOutcome search spec reply
  -- the budget is spent
  spent : reply.status ≡ Spent → TellsSpent search spec reply.text → SearchOutcome search spec reply
  -- a limit is passed after these rounds, of the question for a controller or of a further round
  too_large : (limit : Limit) (rounds : List RoundTree) → IsLargeAfter spec search rounds limit →
      reply ≡ large_reply spec limit rounds → SearchOutcome search spec reply

pub data SynthOutcome (search : Search) (bytes : List ℕ) (reply : Reply) : Type 0 where
  -- the bytes are refused at a fault
  refused : (fault : Fault) → HasSpecFault bytes fault → reply ≡ fault_reply fault → SynthOutcome search bytes reply
  -- they spell a specification
  of_spec : (spec : SpecTree) → Spells bytes spec → SearchOutcome search spec reply → SynthOutcome search bytes reply

-- what holds of the specification that the bytes spell
abbrev pub OfSpec : List ℕ → (SpecTree → Type 0) → Type 0
OfSpec bytes P = (spec : SpecTree) × Spells bytes spec × P spec
