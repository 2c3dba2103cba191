-- Which status and which text the replies of `run` have.
use Rattle.std.proofs.Common.{◌≡◌, ◌≢◌, ℕ, Bool, true, false, List, [], ◌++◌, refl, ap, sym, ◌∙◌}
use Rattle.std.specs.Prelude.{is_some, if◌then◌else◌}
use Rattle.std.specs.List.{list_all}
use Rattle.base_library.proofs.Lists.{not_empty_before, not_empty_behind}
use Rattle.tsl_terms.specs.Name.{Name}
use Rattle.tsl_meaning.specs.RunTree.{RunTree}
use Rattle.tsl_meaning.specs.RunLasso.{shape_of}
use Rattle.flow_program.specs.declared.reading.ProgramError.{ProgramError}
use Rattle.flow_program.specs.declared.reading.ProgramError.TheVariants.{Form, Order, Target, Updates, Window, Unknown, Kind, Arity}
use Rattle.flow_program.specs.declared.reading.ProgramError.TheVariants.{Windows, Nodes, States, NoMemory}
use Rattle.table_interp.specs.declared.TableError.{TableError}
use Rattle.table_interp.specs.declared.TableError.TheVariants.{Byte as TableByte, OpenComment as TableComment, Form as TableForm, Domain}
use Rattle.table_interp.specs.declared.TableError.TheVariants.{Unknown as UnknownEntry, Twice as SecondEntry, Missing as MissingEntry}
use Rattle.table_interp.specs.declared.TableError.TheVariants.{Entries, Count as EntryCount, Range as EntryRange, NoMemory as NoTableMemory}
use Rattle.word_interp.specs.declared.WordError.{WordError}
use Rattle.word_interp.specs.declared.WordError.TheVariants.{Byte as WordByte, OpenComment as WordComment, Form as WordForm, Width}
use Rattle.word_interp.specs.declared.WordError.TheVariants.{Unknown as UnknownWord, Twice as SecondWord, Missing as MissingWord}
use Rattle.word_interp.specs.declared.WordError.TheVariants.{Arity as WordArity, Range as WordRange, NoMemory as NoWordMemory}
use Rattle.table_interp.specs.declared.InputError.{InputError}
use Rattle.table_interp.specs.declared.InputError.TheVariants.{Byte as InputByte, OpenComment as InputComment, Form as InputForm}
use Rattle.table_interp.specs.declared.InputError.TheVariants.{Unknown as UnknownInput, Twice as SecondInput, Missing as MissingInput}
use Rattle.table_interp.specs.declared.InputError.TheVariants.{Rows, Count as RowWidth, Range as RowValue, NoMemory as NoInputMemory}
use Rattle.tsl_report.specs.declared.fault.Fault.{Fault}
use Rattle.tsl_report.specs.declared.fault.Fault.TheVariants.{Parts, Large}
use Rattle.tsl_report.specs.declared.fault.LimitName.TheVariants.{Run as RunLimit}
use Rattle.trace_text.specs.TraceText.{positions_text, loop_text, verdicts_text, trace_text}
use Rattle.tool_io.specs.declared.status.Status.TheVariants.{Done, No}
use Rattle.tool_io.specs.declared.reply.Reply.{Reply}
use Rattle.command_faults.specs.Replies.{fault_status}
use Rattle.checking_commands.specs.RunFaults.{IsProgramFault, IsTableFault, IsWordsFault, IsInputFault}
use Rattle.checking_commands.specs.declared.parting.Style.{Style}
use Rattle.checking_commands.specs.declared.parting.Style.TheVariants.{Tables, Words}
use Rattle.checking_commands.specs.RunParts.{RunParts}
use Rattle.checking_commands.specs.Run.{RunInput, verdicts_of, verdict_status, signals_reply, most_configurations, HasMeaningFault, HasPartFault, in_spec}
use Rattle.checking_commands.specs.Run.{in_program, in_meaning, in_inputs, InputOutcome, runs_on, other_signals, traced, part_refused, spelled}
use Rattle.checking_commands.specs.Run.{RunOutcome, missing, of_all_parts}
use Rattle.tool_io.proofs.Replying.{comes_of_bytes, status_of, text_of}
use Rattle.command_faults.proofs.Statuses.{refusal_comes, fault_says}

-- ---- statuses

pub program_fault_comes : (text : List ℕ) (error : ProgramError) (fault : Fault) → IsProgramFault text error fault →
    comes_of_bytes (fault_status fault) ≡ true
program_fault_comes text (Form line) fault h = ap (λ f. comes_of_bytes (fault_status f)) h
program_fault_comes text (Order line) fault h = ap (λ f. comes_of_bytes (fault_status f)) h
program_fault_comes text (Target line) fault h = ap (λ f. comes_of_bytes (fault_status f)) h
program_fault_comes text (Updates line) fault h = ap (λ f. comes_of_bytes (fault_status f)) h
program_fault_comes text (Window line) fault h = ap (λ f. comes_of_bytes (fault_status f)) h
program_fault_comes text (Unknown line name) fault h = ap (λ f. comes_of_bytes (fault_status f)) h
program_fault_comes text (Kind line name) fault h = ap (λ f. comes_of_bytes (fault_status f)) h
program_fault_comes text (Arity line name) fault h = ap (λ f. comes_of_bytes (fault_status f)) h
program_fault_comes text Windows fault h = ap (λ f. comes_of_bytes (fault_status f)) h
program_fault_comes text Nodes fault h = ap (λ f. comes_of_bytes (fault_status f)) h
program_fault_comes text States fault h = ap (λ f. comes_of_bytes (fault_status f)) h
program_fault_comes text NoMemory fault h = absurd h

table_fault_comes : (text : List ℕ) (names : List Name) (error : TableError) (fault : Fault) → IsTableFault text names error fault →
    comes_of_bytes (fault_status fault) ≡ true
table_fault_comes text names (TableByte at) fault h = ap (λ f. comes_of_bytes (fault_status f)) h.2
table_fault_comes text names (TableComment at) fault h = ap (λ f. comes_of_bytes (fault_status f)) h.2
table_fault_comes text names (TableForm at) fault h = ap (λ f. comes_of_bytes (fault_status f)) h.2
table_fault_comes text names Domain fault h = ap (λ f. comes_of_bytes (fault_status f)) h
table_fault_comes text names (UnknownEntry start end) fault h = ap (λ f. comes_of_bytes (fault_status f)) h.2
table_fault_comes text names (SecondEntry start end) fault h = ap (λ f. comes_of_bytes (fault_status f)) h.2
table_fault_comes text names (MissingEntry id) fault h = ap (λ f. comes_of_bytes (fault_status f)) h
table_fault_comes text names (Entries id) fault h = ap (λ f. comes_of_bytes (fault_status f)) h
table_fault_comes text names (EntryCount id) fault h = ap (λ f. comes_of_bytes (fault_status f)) h
table_fault_comes text names (EntryRange id value) fault h = ap (λ f. comes_of_bytes (fault_status f)) h
table_fault_comes text names NoTableMemory fault h = absurd h

words_fault_comes : (text : List ℕ) (names : List Name) (error : WordError) (fault : Fault) → IsWordsFault text names error fault →
    comes_of_bytes (fault_status fault) ≡ true
words_fault_comes text names (WordByte at) fault h = ap (λ f. comes_of_bytes (fault_status f)) h.2
words_fault_comes text names (WordComment at) fault h = ap (λ f. comes_of_bytes (fault_status f)) h.2
words_fault_comes text names (WordForm at) fault h = ap (λ f. comes_of_bytes (fault_status f)) h.2
words_fault_comes text names Width fault h = ap (λ f. comes_of_bytes (fault_status f)) h
words_fault_comes text names (UnknownWord start end) fault h = ap (λ f. comes_of_bytes (fault_status f)) h.2
words_fault_comes text names (SecondWord start end) fault h = ap (λ f. comes_of_bytes (fault_status f)) h.2
words_fault_comes text names (MissingWord id) fault h = ap (λ f. comes_of_bytes (fault_status f)) h
words_fault_comes text names (WordArity id) fault h = ap (λ f. comes_of_bytes (fault_status f)) h
words_fault_comes text names (WordRange id value) fault h = ap (λ f. comes_of_bytes (fault_status f)) h
words_fault_comes text names NoWordMemory fault h = absurd h

meaning_fault_comes : (style : Style) (text : List ℕ) (names : List Name) (cells : List ℕ) (fault : Fault) →
    HasMeaningFault style text names cells fault → comes_of_bytes (fault_status fault) ≡ true
meaning_fault_comes Tables text names cells fault h = table_fault_comes text names h.error fault h.is_fault
meaning_fault_comes Words text names cells fault h = words_fault_comes text names h.error fault h.is_fault

input_fault_comes : (text : List ℕ) (names : List Name) (error : InputError) (fault : Fault) → IsInputFault text names error fault →
    comes_of_bytes (fault_status fault) ≡ true
input_fault_comes text names (InputByte at) fault h = ap (λ f. comes_of_bytes (fault_status f)) h.2
input_fault_comes text names (InputComment at) fault h = ap (λ f. comes_of_bytes (fault_status f)) h.2
input_fault_comes text names (InputForm at) fault h = ap (λ f. comes_of_bytes (fault_status f)) h.2
input_fault_comes text names (UnknownInput start end) fault h = ap (λ f. comes_of_bytes (fault_status f)) h.2
input_fault_comes text names (SecondInput start end) fault h = ap (λ f. comes_of_bytes (fault_status f)) h.2
input_fault_comes text names (MissingInput id) fault h = ap (λ f. comes_of_bytes (fault_status f)) h
input_fault_comes text names Rows fault h = ap (λ f. comes_of_bytes (fault_status f)) h
input_fault_comes text names (RowWidth row) fault h = ap (λ f. comes_of_bytes (fault_status f)) h
input_fault_comes text names (RowValue row value) fault h = ap (λ f. comes_of_bytes (fault_status f)) h
input_fault_comes text names NoInputMemory fault h = absurd h

part_fault_comes : (parts : RunParts) (fault : Fault) → HasPartFault parts fault → comes_of_bytes (fault_status fault) ≡ true
part_fault_comes parts fault (in_spec some h) = refusal_comes parts.spec h.error fault h.is_fault
part_fault_comes parts fault (in_program given error spec cause is_fault) = program_fault_comes parts.program error fault is_fault
part_fault_comes parts fault (in_meaning given names program spec read h) =
    meaning_fault_comes parts.style parts.meaning names program.cells fault h
part_fault_comes parts fault (in_inputs given names program interpretation error spec read spells cause none is_fault) =
    input_fault_comes parts.inputs names error fault is_fault

verdicts_come : (verdicts : List Bool) → comes_of_bytes (verdict_status verdicts) ≡ true
verdicts_come verdicts = by (list_all (λ holds. holds) verdicts)
  where
    by : (all : Bool) → comes_of_bytes (if all then Done else No) ≡ true
    by true = refl
    by false = refl

input_comes : (input : RunInput) (reply : Reply) → InputOutcome input reply → comes_of_bytes reply.status ≡ true
input_comes input reply (runs_on different is) = ap comes_of_bytes (status_of is)
input_comes input reply (other_signals run closes other is) = ap comes_of_bytes (status_of is)
input_comes input reply (traced run closes same is) =
    ap comes_of_bytes (status_of is) ∙ verdicts_come (verdicts_of input (shape_of run))

pub run_comes : (bytes : List ℕ) (reply : Reply) → RunOutcome bytes reply → comes_of_bytes reply.status ≡ true
run_comes bytes reply (missing head lacks is) = ap comes_of_bytes (status_of is)
run_comes bytes reply (of_all_parts parts are (part_refused fault h is)) = ap comes_of_bytes (status_of is) ∙ part_fault_comes parts fault h
run_comes bytes reply (of_all_parts parts are (spelled input h outcome)) = input_comes input reply outcome

-- ---- texts

trace_says : (names : List Name) (run : RunTree ℕ) (has_formula : Bool) (verdicts : List Bool) →
    trace_text names run has_formula verdicts ≢ []
trace_says names run has_formula verdicts =
    not_empty_before (positions_text names run 0 run.positions ++ loop_text run.start run.length) (verdicts_text has_formula 0 verdicts)
    (not_empty_behind (positions_text names run 0 run.positions) (loop_text run.start run.length) (λ e. cc))

input_says : (input : RunInput) (reply : Reply) → InputOutcome input reply → reply.text ≢ []
input_says input reply (runs_on different is) e = fault_says (Large RunLimit most_configurations) reply is e
input_says input reply (other_signals run closes other is) e = let clash : signals_reply.text ≡ [] = sym (text_of is) ∙ e in cc
input_says input reply (traced run closes same is) e =
    trace_says input.names run (is_some input.given) (verdicts_of input (shape_of run)) (sym (text_of is) ∙ e)

pub run_says : (bytes : List ℕ) (reply : Reply) → RunOutcome bytes reply → reply.text ≢ []
run_says bytes reply (missing head lacks is) e = fault_says (Parts head) reply is e
run_says bytes reply (of_all_parts parts are (part_refused fault h is)) e = fault_says fault reply is e
run_says bytes reply (of_all_parts parts are (spelled input h outcome)) e = input_says input reply outcome e
