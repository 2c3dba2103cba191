-- The replies of `check`, `run` and `recheck` are verdicts where the parts are spelled and no limit is passed; and the limits that `run`
-- and `recheck` tell.
use Rattle.std.proofs.Common.{◌≡◌, ℕ, ◌+◌, Bool, true, false, List, [], refl, ap, sym, ◌∙◌, subst, arith}
use Rattle.std.specs.Prelude.{◌≤◌, Option, Some, None, if◌then◌else◌}
use Rattle.std.specs.List.{list_all}
use Rattle.refutation_check.specs.Checking.{Refusal}
use Rattle.program_check.specs.declared.verdict.Limit.{Limit}
use Rattle.program_check.specs.declared.verdict.Verdict.{Verdict}
use Rattle.program_check.specs.declared.verdict.Verdict.TheVariants.{Signals, Test, Choice, Foreign, Unsound, NoAnnotation, Yes}
use Rattle.program_check.specs.Verdicts.{IsPassed}
use Rattle.program_tree.specs.ProgramTree.{ProgramTree}
use Rattle.flow_program.specs.Reading.{IsReading, HasProgramCause}
use Rattle.tsl_meaning.specs.Interpretation.{Interpretation}
use Rattle.tsl_meaning.specs.RunLasso.{shape_of}
use Rattle.tsl_meaning.specs.RunTree.{RunTree}
use Rattle.tsl_meaning.specs.RunOf.{AreDifferent}
use Rattle.tsl_terms.specs.Name.{Name}
use Rattle.tsl_terms.specs.SpecTree.{SpecTree}
use Rattle.tsl_reader.proofs.Causes.{one_spec}
use Rattle.table_interp.specs.Inputs.{SpellsInputs}
use Rattle.tsl_report.specs.declared.fault.Head.{Head}
use Rattle.tsl_report.specs.declared.fault.Fault.{Fault}
use Rattle.tsl_report.specs.declared.fault.Fault.TheVariants.{Large}
use Rattle.tsl_report.specs.declared.fault.LimitName.TheVariants.{Run as RunLimit}
use Rattle.tool_io.specs.declared.status.Status.TheVariants.{Done, No}
use Rattle.tool_io.specs.declared.reply.Reply.{Reply}
use Rattle.tsl_tool.specs.Answerable.{CanBeChecked, CanBeRun, is_yes_or_no}
use Rattle.checking_commands.specs.Check.{CheckParts, CheckInput, SpellCheckInput, verdict_reply, VerdictOutcome, too_large, judged}
use Rattle.checking_commands.specs.Check.{TextsOutcome, spec_refused, program_refused, both_spelled, CheckOutcome, without_program, of_texts}
use Rattle.command_faults.specs.HeadLines.{IsCutBefore}
use Rattle.checking_commands.specs.Recheck.{RecheckOutcome, without_log, of_parts, head_line, verdict, FormulaAndLog, OfParts, refusal_of}
use Rattle.checking_commands.specs.Recheck.{recheck_reply}
use Rattle.command_faults.specs.HeadLines.{IsFirstLineAt}
use Rattle.command_faults.specs.Replies.{fault_reply}
use Rattle.command_faults.specs.Refusals.{HasSpecFault}
use Rattle.checking_commands.specs.Run.{SpellsGiven, SpellsMeaning, given_names, RunInput, SpellRunInput, HasPartFault, in_spec}
use Rattle.checking_commands.specs.Run.{in_program, in_meaning, in_inputs}
use Rattle.checking_commands.specs.Run.{InputOutcome, runs_on, other_signals, traced, PartsOutcome, part_refused, spelled, RunOutcome, missing}
use Rattle.checking_commands.specs.Run.{of_all_parts, meanings_of_input, most_configurations, verdict_status, verdicts_of, Closes}
use Rattle.checking_commands.specs.RunParts.{RunParts, AreParts, IsCutByStyle, LacksPart, lacks_program, lacks_meaning, lacks_inputs}
use Rattle.checking_commands.specs.RunParts.{program_line, inputs_line}
use Rattle.checking_commands.proofs.OneInput.{one_place, one_after, one_cut, one_division, one_run_division, one_check_input, one_given, one_program_read}
use Rattle.checking_commands.proofs.OneInput.{ReadOnce, one_run_input, program_not_refused, meaning_not_refused, inputs_not_refused}
use Rattle.checking_commands.proofs.RecheckLaws.{is_verdict}
use Rattle.tool_io.proofs.Replying.{status_of}
use Rattle.command_faults.proofs.RefusalLaws.{not_refused}

-- ---- `check`

verdict_answers : (bound : ℕ) (v : Verdict) → is_yes_or_no (verdict_reply bound v).status ≡ true
verdict_answers bound Signals = refl
verdict_answers bound (Test i) = refl
verdict_answers bound (Choice i) = refl
verdict_answers bound (Foreign i) = refl
verdict_answers bound (Unsound i) = refl
verdict_answers bound NoAnnotation = refl
verdict_answers bound Yes = refl

module _ (bound : ℕ) (parts : CheckParts) (input : CheckInput) (spells : SpellCheckInput parts input)
    (within : (limit : Limit) → IsPassed input.spec input.program limit → ⊥) (reply : Reply) where
  judged_answers : VerdictOutcome bound input.spec input.program reply → is_yes_or_no reply.status ≡ true
  judged_answers (too_large limit passed is) = absurd (within limit passed)
  judged_answers (judged v few h realizes is) = ap is_yes_or_no (status_of is) ∙ verdict_answers bound v

  texts_answer : TextsOutcome bound parts reply → is_yes_or_no reply.status ≡ true
  texts_answer (spec_refused fault h is) =
      absurd (not_refused parts.spec input.spec h.error fault spells.spec h.spells_none h.is_fault)
  texts_answer (program_refused spec error fault there cause h is) =
      absurd (program_not_refused parts.program input.spec.names input.program input.names spells.program error fault
      (subst (λ (s : SpecTree). HasProgramCause parts.program s.names error)
      (one_spec parts.spec spec input.spec there spells.spec) cause) h)
  texts_answer (both_spelled other there outcome) =
      judged_answers (subst (λ (c : CheckInput). VerdictOutcome bound c.spec c.program reply)
      (one_check_input parts other input there spells) outcome)

pub check_answers : (bound : ℕ) (bytes : List ℕ) (reply : Reply) → CanBeChecked bytes → CheckOutcome bound bytes reply →
    is_yes_or_no reply.status ≡ true
check_answers bound bytes reply can (without_program none is) = absurd (none can.are_parts.at can.are_parts.first.is_line)
check_answers bound bytes reply can (of_texts parts are outcome) =
    texts_answer bound can.parts can.input can.spelled can.within reply
    (subst (λ (p : CheckParts). TextsOutcome bound p reply) (one_division bytes parts can.parts are can.are_parts) outcome)

-- ---- `run`

verdicts_answer : (verdicts : List Bool) → is_yes_or_no (verdict_status verdicts) ≡ true
verdicts_answer verdicts = by (list_all (λ holds. holds) verdicts)
  where
    by : (all : Bool) → is_yes_or_no (if all then Done else No) ≡ true
    by true = refl
    by false = refl

module _ (once : ReadOnce) (parts : RunParts) (input : RunInput) (spells : SpellRunInput parts input) where
  -- what is spelled after the specification, over the names of this input
  module _ (given : Option SpecTree) (names : List Name) (program : ProgramTree) (given_too : SpellsGiven parts.spec given)
      (read : IsReading parts.program (given_names given) program names) where
    same_read : (input.program ≡ program) × (input.names ≡ names)
    same_read =
        one_program_read parts given input.program program input.names names given_too
        (subst (λ (g : Option SpecTree). IsReading parts.program (given_names g) input.program input.names)
        (one_given parts.spec input.given given spells.spec given_too) spells.program) read

    meaning_there : SpellsMeaning parts.style parts.meaning names program.cells input.interpretation
    meaning_there =
        subst (λ (ns : List Name). SpellsMeaning parts.style parts.meaning ns program.cells input.interpretation) same_read.1
        (subst (λ (p : ProgramTree). SpellsMeaning parts.style parts.meaning input.names p.cells input.interpretation) same_read.0
        spells.meaning)

    inputs_there : (m : Interpretation) → SpellsMeaning parts.style parts.meaning names program.cells m →
        SpellsInputs parts.inputs names program.inputs m.domain input.rows
    inputs_there m spelled_too =
        subst (λ (n : Interpretation). SpellsInputs parts.inputs names program.inputs n.domain input.rows)
        (once.meaning parts.style parts.meaning names program.cells input.interpretation m meaning_there spelled_too)
        (subst (λ (ns : List Name). SpellsInputs parts.inputs ns program.inputs input.interpretation.domain input.rows) same_read.1
        (subst (λ (p : ProgramTree). SpellsInputs parts.inputs input.names p.inputs input.interpretation.domain input.rows)
        same_read.0 spells.inputs))

  spec_not_refused : (given : Option SpecTree) (fault : Fault) → SpellsGiven parts.spec given → (parts.spec ≡ [] → ⊥) →
      HasSpecFault parts.spec fault → ⊥
  spec_not_refused None fault there some h = some there
  spec_not_refused (Some spec) fault there some h = not_refused parts.spec spec h.error fault there.1 h.spells_none h.is_fault

  no_part_refused : (fault : Fault) → HasPartFault parts fault → ⊥
  no_part_refused fault (in_spec some h) = spec_not_refused input.given fault spells.spec some h
  no_part_refused fault (in_program given error there cause h) =
      program_not_refused parts.program (given_names input.given) input.program input.names spells.program error fault
      (subst (λ (g : Option SpecTree). HasProgramCause parts.program (given_names g) error)
      (one_given parts.spec given input.given there spells.spec) cause) h
  no_part_refused fault (in_meaning given names program there read h) =
      meaning_not_refused parts.style parts.meaning names program.cells input.interpretation fault
      (meaning_there given names program there read) h
  no_part_refused fault (in_inputs given names program m error there read spelled_too cause refused h) =
      inputs_not_refused parts.inputs names program.inputs m.domain input.rows error fault
      (inputs_there given names program there read m spelled_too) refused h

  module _ (closes : AreDifferent (meanings_of_input input) input.program input.rows (most_configurations + 1) → ⊥) (reply : Reply) where
    input_answers : InputOutcome input reply → is_yes_or_no reply.status ≡ true
    input_answers (runs_on different is) = absurd (closes different)
    input_answers (other_signals run there differ is) = ap is_yes_or_no (status_of is)
    input_answers (traced run there same is) = ap is_yes_or_no (status_of is) ∙ verdicts_answer (verdicts_of input (shape_of run))

    parts_answer : PartsOutcome parts reply → is_yes_or_no reply.status ≡ true
    parts_answer (part_refused fault h is) = absurd (no_part_refused fault h)
    parts_answer (spelled other spelled_too outcome) =
        input_answers (subst (λ (r : RunInput). InputOutcome r reply) (one_run_input once parts other input spelled_too spells) outcome)

  -- where more configurations than there may be are all different, no run closes within the limit
  module _ (different : AreDifferent (meanings_of_input input) input.program input.rows (most_configurations + 1)) (reply : Reply) where
    never_closes : (run : RunTree ℕ) → Closes input run → ⊥
    never_closes run closed =
        let pair = closed.is_first.is_first.closes in
        let within : run.start + run.length ≤ most_configurations = closed.within in
        different run.start (run.start + run.length) (omega (arith, pair.goes_on)) (omega (arith, within)) (pair.at_start ∙ sym pair.at_end)

    input_tells : InputOutcome input reply → reply ≡ fault_reply (Large RunLimit most_configurations)
    input_tells (runs_on other is) = is
    input_tells (other_signals run there differ is) = absurd (never_closes run there)
    input_tells (traced run there same is) = absurd (never_closes run there)

    parts_tell : PartsOutcome parts reply → reply ≡ fault_reply (Large RunLimit most_configurations)
    parts_tell (part_refused fault h is) = absurd (no_part_refused fault h)
    parts_tell (spelled other spelled_too outcome) =
        input_tells (subst (λ (r : RunInput). InputOutcome r reply) (one_run_input once parts other input spelled_too spells) outcome)

-- no part is missing
none_missing : (bytes : List ℕ) (parts : RunParts) (head : Head) → AreParts bytes parts → LacksPart bytes head → ⊥
none_missing bytes parts head are (lacks_program is none) = none are.program_begins.at are.program_begins.first.is_line
none_missing bytes parts head are (lacks_meaning spec from_program is cut none) =
    let same : are.from_program ≡ from_program =
    one_after bytes program_line parts.spec are.from_program spec from_program are.program_begins cut in
    let there : IsCutByStyle from_program parts.style parts.program are.from_meaning =
    subst (λ (text : List ℕ). IsCutByStyle text parts.style parts.program are.from_meaning) same are.meaning_begins in
    none parts.style there.cut.at there.cut.first.is_line
none_missing bytes parts head are (lacks_inputs spec from_program program from_meaning style is cut cut_again none) =
    let same : are.from_program ≡ from_program =
    one_after bytes program_line parts.spec are.from_program spec from_program are.program_begins cut in
    let there : IsCutByStyle from_program parts.style parts.program are.from_meaning =
    subst (λ (text : List ℕ). IsCutByStyle text parts.style parts.program are.from_meaning) same are.meaning_begins in
    let same_again : are.from_meaning ≡ from_meaning =
    (one_cut from_program parts.style style parts.program are.from_meaning program from_meaning there cut_again).2 in
    let last : IsCutBefore from_meaning inputs_line parts.meaning parts.inputs =
    subst (λ (text : List ℕ). IsCutBefore text inputs_line parts.meaning parts.inputs) same_again are.inputs_begin in
    none last.at last.first.is_line

pub run_answers : ReadOnce → (bytes : List ℕ) (reply : Reply) → CanBeRun bytes → RunOutcome bytes reply →
    is_yes_or_no reply.status ≡ true
run_answers once bytes reply can (missing head lacks is) = absurd (none_missing bytes can.parts head can.are_parts lacks)
run_answers once bytes reply can (of_all_parts parts are outcome) =
    parts_answer once can.parts can.input can.spelled can.closes reply
    (subst (λ (p : RunParts). PartsOutcome p reply) (one_run_division bytes parts can.parts are can.are_parts) outcome)

pub run_tells_limits : ReadOnce → (bytes : List ℕ) (parts : RunParts) (input : RunInput) (reply : Reply) → AreParts bytes parts →
    SpellRunInput parts input → AreDifferent (meanings_of_input input) input.program input.rows (most_configurations + 1) →
    RunOutcome bytes reply → reply ≡ fault_reply (Large RunLimit most_configurations)
run_tells_limits once bytes parts input reply are spells different (missing head lacks is) = absurd (none_missing bytes parts head are lacks)
run_tells_limits once bytes parts input reply are spells different (of_all_parts other are_too outcome) =
    parts_tell once parts input spells different reply
    (subst (λ (p : RunParts). PartsOutcome p reply) (one_run_division bytes other parts are_too are) outcome)

-- ---- `recheck`

refusal_answers : (refusal : Option Refusal) → is_yes_or_no (verdict refusal).status ≡ true
refusal_answers None = refl
refusal_answers (Some refusal) = refl

pub recheck_answers : (bytes : List ℕ) (reply : Reply) → OfParts bytes FormulaAndLog → RecheckOutcome bytes reply →
    is_yes_or_no reply.status ≡ true
recheck_answers bytes reply can (without_log none is) = absurd (none can.0 can.1.is_line)
recheck_answers bytes reply can (of_parts at first is) =
    let there : reply ≡ recheck_reply bytes can.0 =
    is ∙ ap (recheck_reply bytes) (one_place bytes head_line at can.0 first can.1) in
    ap is_yes_or_no (status_of (there ∙ is_verdict can.2)) ∙ refusal_answers (refusal_of can.2)

-- the reply is the one at the first line `lrat`
pub recheck_tells : (bytes : List ℕ) (at : ℕ) (reply : Reply) → IsFirstLineAt bytes head_line at → RecheckOutcome bytes reply →
    reply ≡ recheck_reply bytes at
recheck_tells bytes at reply first (without_log none is) = absurd (none at first.is_line)
recheck_tells bytes at reply first (of_parts other first_too is) =
    is ∙ ap (recheck_reply bytes) (one_place bytes head_line other at first_too first)
