-- When there is an answer to a task, and which statuses it may have: what is read spells what is asked for, and nothing that is
-- counted passes its limit, neither in the input nor in the questions that are asked.
use Rattle.std.specs.Prelude.{◌≡◌, ℕ, ◌+◌, ◌≤◌, Bool, true, false, List, [], length, Option, Some, None}
use Rattle.command_words.specs.declared.task.Task.{Task}
use Rattle.command_words.specs.declared.task.Task.TheVariants.{Synth, Check, Run, Prove, Recheck, Gen, Circuit, Automaton, Accepts}
use Rattle.machines.specs.Rounds.{RoundTree}
use Rattle.program_check.specs.declared.verdict.Limit.{Limit}
use Rattle.program_check.specs.Verdicts.{IsPassed}
use Rattle.refinement_loop.specs.declared.outcome.Bound.TheVariants.{Fixed}
use Rattle.refinement_loop.specs.Outcomes.{IsLargeFor, IsLargeAfter}
use Rattle.tsl_io.specs.Effects.{Effect, HasFailed}
use Rattle.tsl_meaning.specs.RunOf.{AreDifferent}
use Rattle.tool_io.specs.declared.status.Status.{Status}
use Rattle.tool_io.specs.declared.status.Status.TheVariants.{Done, No, Usage, Reading, Large, Spent, ReadFault, WriteFault, Memory}
use Rattle.checking_commands.specs.Check.{CheckParts, AreCheckParts, CheckInput, SpellCheckInput}
use Rattle.synthesis_commands.specs.Gen.{OfGenerated}
use Rattle.checking_commands.specs.Recheck.{FormulaAndLog, OfParts}
use Rattle.checking_commands.specs.Run.{RunInput, SpellRunInput, meanings_of_input, most_configurations}
use Rattle.checking_commands.specs.RunParts.{RunParts, AreParts}
use Rattle.exchange_commands.specs.Automaton.{IsPastFor}
use Rattle.automaton_text.specs.HoaRefusals.{IsSmall}
use Rattle.exchange_commands.specs.Accepts.{OfAcceptsInput}
use Rattle.tool_io.specs.Statuses.{is_answer}
use Rattle.synthesis_commands.specs.Synth.{OfSpec}
use Rattle.tsl_tool.specs.Tasks.{search_sizes}

-- ---- what can be answered

-- The bytes spell a specification and a program, which are within their own limits then, and no limit of the work on them is passed.
pub record CanBeChecked (bytes : List ℕ) : Type 0 where
  pub parts : CheckParts
  pub are_parts : AreCheckParts bytes parts
  pub input : CheckInput
  pub spelled : SpellCheckInput parts input
  pub within : (limit : Limit) → IsPassed input.spec input.program limit → ⊥

-- The bytes spell a program with an interpretation, by tables or by machine words, and with inputs, and a specification if there is
-- one, and of the first configurations, one more than there may be, two are equal.
pub record CanBeRun (bytes : List ℕ) : Type 0 where
  pub parts : RunParts
  pub are_parts : AreParts bytes parts
  pub input : RunInput
  pub spelled : SpellRunInput parts input
  pub closes : AreDifferent (meanings_of_input input) input.program input.rows (most_configurations + 1) → ⊥

-- The bytes spell an automaton within its limits, and a loop of letters over its propositions.
abbrev pub CanBeAccepted : List ℕ → Type 0
CanBeAccepted bytes = OfAcceptsInput bytes (λ input. IsSmall input.bits input.states input.edges)

-- For `synth` the limits are those of each question that is asked after a chain of rounds, for `prove` and `gen` those of the
-- question for a controller alone. `recheck` asks that the bytes spell a formula and a log, which are within their limits then.
abbrev pub CanBeAnswered : Task → List ℕ → Type 0
CanBeAnswered (Synth sizes) bytes =
    OfSpec bytes (λ spec. (limit : Limit) (rounds : List RoundTree) → IsLargeAfter spec (search_sizes sizes) rounds limit → ⊥)
CanBeAnswered (Check bound) bytes = CanBeChecked bytes
CanBeAnswered Run bytes = CanBeRun bytes
CanBeAnswered (Prove sizes) bytes = OfSpec bytes (λ spec. (limit : Limit) → IsLargeFor spec [] sizes.states (Fixed sizes.bound) limit → ⊥)
CanBeAnswered Recheck bytes = OfParts bytes FormulaAndLog
CanBeAnswered (Gen n) bytes = OfGenerated n (λ spec. (limit : Limit) → IsLargeFor spec [] n (Fixed n) limit → ⊥)
CanBeAnswered (Circuit bound) bytes = CanBeChecked bytes
CanBeAnswered Automaton bytes = OfSpec bytes (λ spec. (limit : Limit) → IsPastFor spec limit → ⊥)
CanBeAnswered Accepts bytes = CanBeAccepted bytes

-- where at most so many bytes are read, the source tells these and no more than that; otherwise it may tell any
abbrev pub CanBeRead : Option ℕ → Effect → List ℕ → Type 0
CanBeRead (Some most) source bytes = (source.old ≡ Some bytes) × (length bytes ≤ most)
CanBeRead None source bytes = Unit {0}

-- no fault is counted of the source or of a sink
pub record NoneFails (source out err : Effect) : Type 0 where
  pub no_read_fault : HasFailed source → ⊥
  pub no_fault_of_out : HasFailed out → ⊥
  pub no_fault_of_err : HasFailed err → ⊥

-- ---- how it is answered

abbrev pub is_yes_or_no : Status → Bool
is_yes_or_no Done = true
is_yes_or_no No = true
is_yes_or_no Usage = false
is_yes_or_no Reading = false
is_yes_or_no Large = false
is_yes_or_no Spent = false
is_yes_or_no ReadFault = false
is_yes_or_no WriteFault = false
is_yes_or_no Memory = false

abbrev pub is_done : Status → Bool
is_done Done = true
is_done _ = false

-- `check`, `run`, `recheck` and `accepts` answer a verdict, `circuit` a text or a verdict, `automaton` a text, and the others may have
-- spent their budget too
abbrev pub is_answer_to : Task → Status → Bool
is_answer_to (Synth sizes) status = is_answer status
is_answer_to (Check bound) status = is_yes_or_no status
is_answer_to Run status = is_yes_or_no status
is_answer_to (Prove sizes) status = is_answer status
is_answer_to Recheck status = is_yes_or_no status
is_answer_to (Gen n) status = is_answer status
is_answer_to (Circuit bound) status = is_yes_or_no status
is_answer_to Automaton status = is_done status
is_answer_to Accepts status = is_yes_or_no status
