-- Programs that `synth` wrote, where they are run: no formula that is judged fails, whatever gives the interpretation.
use Rattle.std.proofs.Common.{◌≡◌, ◌≢◌, ℕ, List, [], map, ap, sym, ◌∙◌, subst, inl, inr}
use Rattle.std.specs.Prelude.{Option, Some, None, IsTrue}
use Rattle.std.specs.List.{list_all, AllByRecursion}
use Rattle.base_library.proofs.Each.{each_joined, each_map, each_weaker}
use Rattle.tsl_terms.specs.declared.names.NameKind.TheVariants.{Signal}
use Rattle.tsl_terms.specs.Name.{Name, is_name, AreDistinct}
use Rattle.tsl_terms.specs.SpecTree.{SpecTree}
use Rattle.tsl_terms.specs.WindowTree.{window_formula_of}
use Rattle.tsl_reader.specs.Spells.{Spells}
use Rattle.tsl_reader.proofs.Causes.{one_spec}
use Rattle.tsl_reader.proofs.SpelledFits.{spelled_fits}
use Rattle.program_tree.specs.ProgramTree.{ProgramTree}
use Rattle.flow_program.specs.ProgramText.{ProgramText}
use Rattle.flow_program.specs.Reading.{IsReading}
use Rattle.tsl_meaning.specs.Interpretation.{Interpretation, InputRows, IsInterpretation, IsInputLoop}
use Rattle.tsl_meaning.specs.Lasso.{Meets}
use Rattle.tsl_meaning.specs.Promise.{Realizes, EveryRunMeets}
use Rattle.tsl_meaning.specs.RunTree.{RunTree}
use Rattle.tsl_meaning.specs.RunLasso.{shape_of}
use Rattle.table_interp.specs.Tables.{SpellsTables}
use Rattle.table_interp.specs.Inputs.{SpellsInputs}
use Rattle.word_interp.specs.Words.{SpellsWords}
use Rattle.refinement_loop.specs.declared.outcome.Search.{Search}
use Rattle.tsl_report.specs.declared.fault.Fault.TheVariants.{Parts, Large}
use Rattle.tsl_report.specs.declared.fault.LimitName.TheVariants.{Run as RunLimit}
use Rattle.tool_io.specs.declared.status.Status.TheVariants.{Done, No}
use Rattle.tool_io.specs.declared.reply.Reply.{Reply}
use Rattle.tool_io.proofs.Replying.{status_of}
use Rattle.command_faults.proofs.Statuses.{fault_not_no}
use Rattle.synthesis_commands.specs.Synth.{IsWritten, OfSpec}
use Rattle.checking_commands.specs.declared.parting.Style.{Style}
use Rattle.checking_commands.specs.declared.parting.Style.TheVariants.{Tables, Words}
use Rattle.checking_commands.specs.Run.{SpellsGiven, SpellsMeaning, HasGivenSignals, RunInput, SpellRunInput, given_names, given_formulas}
use Rattle.checking_commands.specs.Run.{formulas_to_judge, judged_formulas, lasso_of, IsFirstRun, InputOutcome, runs_on, other_signals, traced}
use Rattle.checking_commands.specs.Run.{part_refused, spelled, RunOutcome, missing, of_all_parts, most_configurations}
use Rattle.checking_commands.specs.RunParts.{RunParts}
use Rattle.flow_program.proofs.ReadingLaws.{one_reading, spelled_is_read}
use Rattle.flow_program.proofs.Renumbered.{congruent_over_others}
use Rattle.program_check.proofs.Accepted.{sound_windows_hold}
use Rattle.tsl_meaning.proofs.Naming.{written_program}
use Rattle.checking_commands.proofs.OneInput.{one_run_division}
use Rattle.checking_commands.proofs.RunNames.{cells_named}
use Rattle.checking_commands.proofs.RunVerdicts.{yes_where_all_hold}
use Rattle.tsl_tool.specs.WrittenPrograms.{IsGivenWith, RunsProgramOf}

-- ---- what the laws below say of what is spelled

-- what a text spells in a style is an interpretation, and what it spells as inputs is an input loop
pub record AreMeant : Type 0 where
  pub interpretation : (style : Style) (text : List ℕ) (names : List Name) (cells : List ℕ) (m : Interpretation) →
      IsTrue (list_all (λ s. is_name names s Signal 0) cells) → SpellsMeaning style text names cells m → IsInterpretation names cells m
  pub inputs : (text : List ℕ) (names : List Name) (inputs : List ℕ) (domain : ℕ) (rows : InputRows ℕ) →
      SpellsInputs text names inputs domain rows → IsInputLoop domain inputs rows

pub are_meant : ((text : List ℕ) (names : List Name) (cells : List ℕ) (m : Interpretation) →
    IsTrue (list_all (λ s. is_name names s Signal 0) cells) → SpellsTables text names cells m → IsInterpretation names cells m) →
    ((text : List ℕ) (names : List Name) (cells : List ℕ) (m : Interpretation) →
    IsTrue (list_all (λ s. is_name names s Signal 0) cells) → SpellsWords text names cells m → IsInterpretation names cells m) →
    ((text : List ℕ) (names : List Name) (inputs : List ℕ) (domain : ℕ) (rows : InputRows ℕ) →
    SpellsInputs text names inputs domain rows → IsInputLoop domain inputs rows) → AreMeant
are_meant by_tables by_words by_rows = record { interpretation = of_style; inputs = by_rows }
  where
    of_style : (style : Style) (text : List ℕ) (names : List Name) (cells : List ℕ) (m : Interpretation) →
        IsTrue (list_all (λ s. is_name names s Signal 0) cells) → SpellsMeaning style text names cells m → IsInterpretation names cells m
    of_style Tables = by_tables
    of_style Words = by_words

-- ---- windows over other names

-- the windows of a program that realizes a specification hold also where its text is read with names in another order
windows_hold : (text : List ℕ) (spec : SpecTree) (p q : ProgramTree) (names : List Name) → AreDistinct spec.names →
    ProgramText text spec.names p → Realizes spec p → IsReading text [] q names →
    AllByRecursion (λ w. EveryRunMeets names q (window_formula_of w)) q.windows
windows_hold text spec p q names distinct h realizes read =
    sound_windows_hold names q (written_program names q read.spelled.is_program read.spelled.is_writable)
    (congruent_over_others text spec.names [] names p q distinct (λ i j m n at_i at_j same. cc) h read realizes.congruent)

-- ---- what a program keeps

-- the program has the signals of what is given, and each run of it meets each formula that is judged
record Keeps (given : Option SpecTree) (names : List Name) (program : ProgramTree) : Type 0 where
  signals : HasGivenSignals given program
  formulas : AllByRecursion (EveryRunMeets names program) (formulas_to_judge program given)

keeps : (given : Option SpecTree) (names : List Name) (program : ProgramTree) → HasGivenSignals given program →
    AllByRecursion (λ w. EveryRunMeets names program (window_formula_of w)) program.windows →
    AllByRecursion (EveryRunMeets names program) (given_formulas given) → Keeps given names program
keeps given names program signals windows whole = record {
  signals = signals;
  formulas = each_joined (EveryRunMeets names program) (map window_formula_of program.windows) (given_formulas given)
      (each_map (EveryRunMeets names program) window_formula_of program.windows windows) whole;
}

module _ (meant : AreMeant) (search : Search) (bytes text : List ℕ) (spec : SpecTree) (spells : Spells bytes spec)
    (written : IsWritten search spec text) where
  names_distinct : AreDistinct spec.names
  names_distinct = (spelled_fits bytes spec spells).distinct

  -- with its specification
  keeps_with : Keeps (Some spec) spec.names written.program
  keeps_with =
      let r : Realizes spec written.program = written.realizes in
      keeps (Some spec) spec.names written.program (record { inputs = r.inputs; cells = r.cells; outputs = r.outputs }) r.windows (r.runs, tt)

  module _ (part : List ℕ) (is_given : IsGivenWith bytes part) (program : ProgramTree) (names : List Name) where
    keeps_by : (given : Option SpecTree) → SpellsGiven part given → IsReading text (given_names given) program names →
        Keeps given names program
    keeps_by None there read =
        keeps None names program tt
        (windows_hold text spec written.program program names names_distinct written.spelled written.realizes read) tt
    keeps_by (Some other) there read = by is_given
      where
        of_spec : other ≡ spec → Keeps (Some other) names program
        of_spec same =
            let here : IsReading text spec.names program names = subst (λ (s : SpecTree). IsReading text s.names program names) same read in
            let both : (written.program ≡ program) × (spec.names ≡ names) =
            one_reading text spec.names written.program program spec.names names names_distinct
            (spelled_is_read text spec.names written.program names_distinct written.spelled) here in
            subst (λ (s : SpecTree). Keeps (Some s) names program) (sym same)
            (subst (λ (ns : List Name). Keeps (Some spec) ns program) both.1
            (subst (λ (p : ProgramTree). Keeps (Some spec) spec.names p) both.0 keeps_with))

        by : IsGivenWith bytes part → Keeps (Some other) names program
        by (inl none) = absurd (there.0 none)
        by (inr both) = of_spec (one_spec part other both.0 there.1 both.2 ∙ one_spec bytes both.0 spec both.1 spells)

  -- ---- its runs

  module _ (parts : RunParts) (program_is : parts.program ≡ text) (is_given : IsGivenWith bytes parts.spec) (input : RunInput)
      (read : SpellRunInput parts input) where
    input_keeps : Keeps input.given input.names input.program
    input_keeps =
        keeps_by parts.spec is_given input.program input.names input.given read.spec
        (subst (λ (t : List ℕ). IsReading t (given_names input.given) input.program input.names) program_is read.program)

    run_meets : (run : RunTree ℕ) → IsFirstRun input run →
        AllByRecursion (λ f. Meets (lasso_of input (shape_of run)) f 0) (judged_formulas input)
    run_meets run first =
        each_weaker (EveryRunMeets input.names input.program) (λ f. Meets (lasso_of input (shape_of run)) f 0)
        (λ f every. every input.interpretation input.rows (shape_of run)
        (meant.interpretation parts.style parts.meaning input.names input.program.cells input.interpretation
        (cells_named input.names input.program read.program.spelled.is_program read.program.spelled.is_writable) read.meaning)
        (meant.inputs parts.inputs input.names input.program.inputs input.interpretation.domain input.rows read.inputs)
        first.is_first.closes)
        (judged_formulas input) input_keeps.formulas

    input_not_no : (reply : Reply) → InputOutcome input reply → reply.status ≢ No
    input_not_no reply (runs_on different is) says = fault_not_no (Large RunLimit most_configurations) reply is says
    input_not_no reply (other_signals run closes other is) says = absurd (other input_keeps.signals)
    input_not_no reply (traced run closes same is) says =
        let done = (yes_where_all_hold input run).1 (run_meets run closes.is_first) in
        let clash : Done ≡ No = sym done ∙ sym (status_of is) ∙ says in cc

-- a program that was written has no verdict that a formula fails
pub written_not_no : AreMeant → (search : Search) (specification text bytes : List ℕ) (reply : Reply) →
    OfSpec specification (λ spec. IsWritten search spec text) → RunsProgramOf specification text bytes → RunOutcome bytes reply →
    reply.status ≢ No
written_not_no meant search specification text bytes reply h runs (missing head lacks is) says = fault_not_no (Parts head) reply is says
written_not_no meant search specification text bytes reply h runs (of_all_parts parts are (part_refused fault refused is)) says =
    fault_not_no fault reply is says
written_not_no meant search specification text bytes reply h runs (of_all_parts parts are (spelled input read outcome)) says =
    let same : parts ≡ runs.parts = one_run_division bytes parts runs.parts are runs.are_parts in
    input_not_no meant search specification text h.0 h.1 h.2 parts (ap (λ (p : RunParts). p.program) same ∙ runs.program)
    (subst (λ (p : RunParts). IsGivenWith specification p.spec) (sym same) runs.given) input read reply outcome says
