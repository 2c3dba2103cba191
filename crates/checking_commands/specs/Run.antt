-- What the command `run` replies.
use Rattle.std.specs.Prelude.{◌≡◌, ℕ, ◌+◌, ◌≤◌, Bool, false, List, [], ◌∷◌, ◌++◌, map, codes, Option, Some, None, is_some, Contains}
use Rattle.std.specs.Prelude.{if◌then◌else◌}
use Rattle.std.specs.List.{list_all, AllByRecursion}
use Rattle.loop_shape.specs.LoopShape.{LoopShape}
use Rattle.tsl_terms.specs.Name.{Name}
use Rattle.tsl_terms.specs.FormulaTree.{FormulaTree}
use Rattle.tsl_terms.specs.SpecTree.{SpecTree, whole_formula}
use Rattle.tsl_terms.specs.Value.{Meanings}
use Rattle.tsl_terms.specs.WindowTree.{window_formula_of}
use Rattle.tsl_reader.specs.Spells.{Spells}
use Rattle.flow_program.specs.declared.reading.ProgramError.{ProgramError}
use Rattle.program_tree.specs.ProgramTree.{ProgramTree}
use Rattle.flow_program.specs.Reading.{IsReading, HasProgramCause}
use Rattle.tsl_meaning.specs.Interpretation.{Interpretation, InputRows, meanings_in}
use Rattle.tsl_meaning.specs.Lasso.{meets, Meets, Lasso, closed_run}
use Rattle.tsl_meaning.specs.RunTree.{RunTree}
use Rattle.tsl_meaning.specs.RunLasso.{shape_of}
use Rattle.tsl_meaning.specs.RunOf.{IsRunOf, IsFirstRepetition, AreDifferent}
use Rattle.program_check.specs.Verdicts.{HasSignals}
use Rattle.table_interp.specs.declared.InputError.{InputError}
use Rattle.table_interp.specs.declared.TableError.{TableError}
use Rattle.table_interp.specs.Tables.{SpellsTables, HasTableCause, IsRefusedAsTables}
use Rattle.table_interp.specs.Inputs.{SpellsInputs, HasInputCause, IsRefusedAsInputs}
use Rattle.word_interp.specs.declared.WordError.{WordError}
use Rattle.word_interp.specs.Words.{SpellsWords, HasWordsCause, IsRefusedAsWords}
use Rattle.tsl_report.specs.declared.fault.Head.{Head}
use Rattle.tsl_report.specs.declared.fault.LimitName.TheVariants.{Run as RunLimit}
use Rattle.tsl_report.specs.declared.fault.Fault.{Fault}
use Rattle.tsl_report.specs.declared.fault.Fault.TheVariants.{Parts, Large}
use Rattle.trace_text.specs.TraceText.{trace_text}
use Rattle.checking_commands.specs.declared.parting.Style.{Style}
use Rattle.checking_commands.specs.declared.parting.Style.TheVariants.{Tables, Words}
use Rattle.checking_commands.specs.declared.running.TheConstants.{MOST_CONFIGURATIONS}
use Rattle.tool_io.specs.declared.status.Status.{Status}
use Rattle.tool_io.specs.declared.status.Status.TheVariants.{Done, No}
use Rattle.tool_io.specs.declared.reply.Reply.{Reply}
use Rattle.command_faults.specs.Refusals.{HasSpecFault}
use Rattle.command_faults.specs.Replies.{fault_reply}
use Rattle.checking_commands.specs.RunFaults.{IsProgramFault, IsTableFault, IsWordsFault, IsInputFault}
use Rattle.checking_commands.specs.RunParts.{RunParts, AreParts, LacksPart}

-- ---- what the parts spell

-- the part of a specification is empty where there is none, and otherwise spells it
abbrev pub SpellsGiven : List ℕ → Option SpecTree → Type 0
SpellsGiven text None = text ≡ []
SpellsGiven text (Some spec) = (text ≡ [] → ⊥) × Spells text spec

-- the names that are given before the program
abbrev pub given_names : Option SpecTree → List Name
given_names None = []
given_names (Some spec) = spec.names

-- the text spells the interpretation in this style: by tables, or by operations on machine words
abbrev pub SpellsMeaning : Style → List ℕ → List Name → List ℕ → Interpretation → Type 0
SpellsMeaning Tables = SpellsTables
SpellsMeaning Words = SpellsWords

-- a specification or none, a program over names that begin with those of the specification, an interpretation of all
-- these names, and rows of inputs
pub record RunInput : Type 0 where
  pub given : Option SpecTree
  pub names : List Name
  pub program : ProgramTree
  pub interpretation : Interpretation
  pub rows : InputRows ℕ

pub record SpellRunInput (parts : RunParts) (input : RunInput) : Type 0 where
  pub spec : SpellsGiven parts.spec input.given
  pub program : IsReading parts.program (given_names input.given) input.program input.names
  pub meaning : SpellsMeaning parts.style parts.meaning input.names input.program.cells input.interpretation
  pub inputs : SpellsInputs parts.inputs input.names input.program.inputs input.interpretation.domain input.rows

-- ---- the run and its verdicts

abbrev pub meanings_of_input : RunInput → Meanings ℕ
meanings_of_input input = meanings_in input.names input.program input.interpretation

-- this is the run of the program under the interpretation and over the inputs that closes at the first configuration that stood before
pub record IsFirstRun (input : RunInput) (run : RunTree ℕ) : Type 0 where
  pub is_run : IsRunOf (meanings_of_input input) input.program input.rows run
  pub is_first : IsFirstRepetition (meanings_of_input input) input.program input.rows (shape_of run)

-- the closed run of this shape, as its formulas see it
abbrev pub lasso_of : RunInput → LoopShape → Lasso
lasso_of input shape = closed_run (meanings_of_input input) input.program input.rows shape

-- the formulas that verdicts are on: that of each window, and then the whole formula of the specification, if there is one
abbrev pub given_formulas : Option SpecTree → List FormulaTree
given_formulas None = []
given_formulas (Some spec) = whole_formula spec ∷ []

abbrev pub formulas_to_judge : ProgramTree → Option SpecTree → List FormulaTree
formulas_to_judge program given = map window_formula_of program.windows ++ given_formulas given

abbrev pub judged_formulas : RunInput → List FormulaTree
judged_formulas input = formulas_to_judge input.program input.given

-- whether each of them holds at the first position of the run
abbrev pub verdicts_of : RunInput → LoopShape → List Bool
verdicts_of input shape = map (λ f. meets (lasso_of input shape) f 0) (judged_formulas input)

-- yes where all of them hold
abbrev pub verdict_status : List Bool → Status
verdict_status verdicts = if list_all (λ holds. holds) verdicts then Done else No

-- the reply of a run over names with its verdicts, the last of which may be that on the formula of a specification
abbrev pub trace_reply : List Name → RunTree ℕ → Bool → List Bool → Reply
trace_reply names run has_formula verdicts =
    record { status = verdict_status verdicts; text = trace_text names run has_formula verdicts }

abbrev pub run_reply : RunInput → RunTree ℕ → Reply
run_reply input run = trace_reply input.names run (is_some input.given) (verdicts_of input (shape_of run))

-- ---- the signals of the specification

-- the program has exactly the inputs, cells and outputs of the specification, where there is one
abbrev pub HasGivenSignals : Option SpecTree → ProgramTree → Type 0
HasGivenSignals None program = Unit {0}
HasGivenSignals (Some spec) program = HasSignals spec program

abbrev pub signals_reply : Reply
signals_reply = record { status = No; text = codes "refused signals\n" }

-- ---- the reply

-- the text spells no interpretation of the names by tables for a cause, and this is its fault
pub record HasTablesFault (text : List ℕ) (names : List Name) (cells : List ℕ) (fault : Fault) : Type 0 where
  pub error : TableError
  pub cause : HasTableCause text names cells error
  pub spells_none : IsRefusedAsTables text names cells error
  pub is_fault : IsTableFault text names error fault

-- nor one by machine words
pub record HasWordsFault (text : List ℕ) (names : List Name) (cells : List ℕ) (fault : Fault) : Type 0 where
  pub error : WordError
  pub cause : HasWordsCause text names cells error
  pub spells_none : IsRefusedAsWords text names cells error
  pub is_fault : IsWordsFault text names error fault

-- nor one in this style
abbrev pub HasMeaningFault : Style → List ℕ → List Name → List ℕ → Fault → Type 0
HasMeaningFault Tables = HasTablesFault
HasMeaningFault Words = HasWordsFault

-- a part is refused at a fault, and what comes before it is spelled
pub data HasPartFault (parts : RunParts) (fault : Fault) : Type 0 where
  in_spec : (parts.spec ≡ [] → ⊥) → HasSpecFault parts.spec fault → HasPartFault parts fault
  in_program : (given : Option SpecTree) (error : ProgramError) → SpellsGiven parts.spec given →
      HasProgramCause parts.program (given_names given) error → IsProgramFault parts.program error fault → HasPartFault parts fault
  in_meaning : (given : Option SpecTree) (names : List Name) (program : ProgramTree) →
      SpellsGiven parts.spec given → IsReading parts.program (given_names given) program names →
      HasMeaningFault parts.style parts.meaning names program.cells fault → HasPartFault parts fault
  in_inputs : (given : Option SpecTree) (names : List Name) (program : ProgramTree) (interpretation : Interpretation)
      (error : InputError) → SpellsGiven parts.spec given → IsReading parts.program (given_names given) program names →
      SpellsMeaning parts.style parts.meaning names program.cells interpretation →
      HasInputCause parts.inputs names program.inputs interpretation.domain error →
      IsRefusedAsInputs parts.inputs names program.inputs interpretation.domain error →
      IsInputFault parts.inputs names error fault → HasPartFault parts fault

-- the most configurations of a run
abbrev pub most_configurations : ℕ
most_configurations = MOST_CONFIGURATIONS

-- the run closes within the limit
pub record Closes (input : RunInput) (run : RunTree ℕ) : Type 0 where
  pub is_first : IsFirstRun input run
  pub within : run.start + run.length ≤ most_configurations

-- The reply to a program with its interpretation and inputs. Whether the run closes is asked before the signals are compared.
pub data InputOutcome (input : RunInput) (reply : Reply) : Type 0 where
  -- more configurations than the limit are all different
  runs_on : AreDifferent (meanings_of_input input) input.program input.rows (most_configurations + 1) →
      reply ≡ fault_reply (Large RunLimit most_configurations) → InputOutcome input reply
  -- the program has other signals than the specification
  other_signals : (run : RunTree ℕ) → Closes input run → (HasGivenSignals input.given input.program → ⊥) →
      reply ≡ signals_reply → InputOutcome input reply
  -- the run and its verdicts
  traced : (run : RunTree ℕ) → Closes input run → HasGivenSignals input.given input.program →
      reply ≡ run_reply input run → InputOutcome input reply

pub data PartsOutcome (parts : RunParts) (reply : Reply) : Type 0 where
  -- a part is refused at a fault
  part_refused : (fault : Fault) → HasPartFault parts fault → reply ≡ fault_reply fault → PartsOutcome parts reply
  -- the parts spell a program with its interpretation and inputs
  spelled : (input : RunInput) → SpellRunInput parts input → InputOutcome input reply → PartsOutcome parts reply

pub data RunOutcome (bytes : List ℕ) (reply : Reply) : Type 0 where
  -- a part is missing
  missing : (head : Head) → LacksPart bytes head → reply ≡ fault_reply (Parts head) → RunOutcome bytes reply
  -- there are all parts
  of_all_parts : (parts : RunParts) → AreParts bytes parts → PartsOutcome parts reply → RunOutcome bytes reply

-- ---- what the answers promise

-- the text is that of the closed run of what the parts of the bytes spell
pub record IsRunTrace (bytes text : List ℕ) : Type 0 where
  pub parts : RunParts
  pub are_parts : AreParts bytes parts
  pub input : RunInput
  pub spelled : SpellRunInput parts input
  pub run : RunTree ℕ
  pub is_first : IsFirstRun input run
  pub signals : HasGivenSignals input.given input.program
  pub text_is : text ≡ (run_reply input run).text

-- the formula holds in the run
abbrev pub MeetsFormula : {bytes text : List ℕ} → IsRunTrace bytes text → FormulaTree → Type 0
MeetsFormula trace formula = Meets (lasso_of trace.input (shape_of trace.run)) formula 0

-- the formula of each window and the whole formula of the specification hold in the run
pub record AllHold (bytes text : List ℕ) : Type 0 where
  pub trace : IsRunTrace bytes text
  pub all_hold : AllByRecursion (MeetsFormula trace) (judged_formulas trace.input)

pub data SomeFails (bytes text : List ℕ) : Type 0 where
  -- a verdict is that one of them fails
  one_fails : (trace : IsRunTrace bytes text) → Contains (verdicts_of trace.input (shape_of trace.run)) false → SomeFails bytes text
  -- the signals of the specification are not those of the program
  signals_differ : (parts : RunParts) → AreParts bytes parts → (input : RunInput) → SpellRunInput parts input →
      (HasGivenSignals input.given input.program → ⊥) → text ≡ codes "refused signals\n" → SomeFails bytes text
