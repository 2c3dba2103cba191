-- What holds of a program with its interpretation and inputs, once they are read: it can run, and its run can be judged
-- and written.
use Rattle.std.proofs.Common.{◌≡◌, ℕ, ◌+◌, ◌<◌, ◌^◌, true, List, [], ◌∷◌, ◌++◌, length, map, refl, ap, sym, ◌∙◌, subst, arith}
use Rattle.std.specs.Prelude.{Option, Some, None, Result, Ok, Err, IfOk, is_some, slice_get}
use Rattle.std.specs.List.{list_all, flat_map, AllByRecursion}
use Rattle.std.proofs.lemmas.List.{length-append, length-map, map-id}
use Rattle.std.proofs.lemmas.List.Elements.{recursion_from_All}
use Rattle.base_library.proofs.Each.{each_at, each_joined, each_map, each_weaker}
use Rattle.base_library.proofs.Options.{one_value}
use Rattle.base_library.proofs.Passes.{list_all_weaker, list_all_from_places}
use Rattle.base_library.proofs.Gathered.{length-all_there}
use Rattle.tsl_meaning.proofs.PromisedFormulas.{whole_still_speaks}
use Rattle.tsl_terms.specs.Name.{Name}
use Rattle.tsl_terms.specs.FormulaTree.{FormulaTree}
use Rattle.tsl_terms.specs.Atoms.{atoms}
use Rattle.tsl_terms.specs.SpecTree.{SpecTree, whole_formula}
use Rattle.tsl_terms.specs.WellFormed.{SpecFits}
use Rattle.tsl_terms.specs.Value.{Meanings}
use Rattle.tsl_terms.specs.WindowTree.{window_formula_of}
use Rattle.term_text.specs.TermText.{term_is_held}
use Rattle.program_tree.specs.ProgramTree.{ProgramTree}
use Rattle.flow_program.specs.Uses.{uses_of, entries_of_use}
use Rattle.tsl_meaning.specs.declared.run.InputLoop.{InputLoop}
use Rattle.tsl_meaning.specs.Interpretation.{Interpretation, InputRows, IsInterpretation, IsInputLoop, IsRow, IsEqualityOf, meanings_in, meanings_with, rows_of}
use Rattle.tsl_meaning.specs.Lasso.{meets}
use Rattle.tsl_meaning.specs.OverNames.{term_is_over, IsFormulaOver}
use Rattle.tsl_meaning.specs.Run.{configuration_at, action_in}
use Rattle.tsl_meaning.specs.RunTree.{PositionTree, RunTree}
use Rattle.tsl_meaning.specs.RunLasso.{shape_of, IsJudged}
use Rattle.tsl_meaning.specs.RunOf.{IsStepOf, configuration_of, IsRunOf, IsFirstRepetition, AreDifferent}
use Rattle.tsl_meaning.proofs.Equal.{same_meanings}
use Rattle.tsl_meaning.proofs.Naming.{written_program}
use Rattle.tsl_meaning.proofs.PromisedFormulas.{windows_speak}
use Rattle.tsl_meaning.proofs.Runs.{step_there, atoms_decided, configuration_there, action_there, IsConfiguration}
use Rattle.tsl_meaning.proofs.RunsOf.{run_means, decided_judged}
use Rattle.table_interp.specs.Inputs.{SpellsInputs, by_inputs}
use Rattle.table_runner.specs.Running.{rows_seen, CanRun}
use Rattle.trace_text.specs.TraceText.{position_is_held, RunIsHeld}
use Rattle.tsl_report.specs.declared.fault.LimitName.TheVariants.{Run as RunLimit}
use Rattle.tsl_report.specs.declared.fault.Fault.TheVariants.{Large}
use Rattle.tool_io.specs.declared.reply.Reply.{Reply}
use Rattle.command_faults.specs.Replies.{fault_reply}
use Rattle.checking_commands.specs.Run.{RunInput, SpellRunInput, IsFirstRun, HasGivenSignals, given_formulas, given_names, judged_formulas, lasso_of}
use Rattle.checking_commands.specs.Run.{meanings_of_input, trace_reply, InputOutcome, Closes, traced, runs_on, other_signals, formulas_to_judge}
use Rattle.checking_commands.specs.Run.{most_configurations, signals_reply}
use Rattle.checking_commands.specs.RunParts.{RunParts}
use Rattle.checking_commands.specs.internal.RunView.{GivenFits, IsReady, verdict_in, verdicts_in}
use Rattle.checking_commands.proofs.RunNames.{with_uses_begin, inputs_held, cells_held, outputs_held, over_held}

-- ---- what is lent and what it means

-- numbers are seen as they are
pub seen_rows : (inputs : InputLoop ℕ) → rows_seen (λ v. v) inputs ≡ rows_of inputs
seen_rows inputs = λ i. record { stem = each inputs.stem i; cycle = each inputs.cycle i }
  where
    each : (rows : List (List ℕ)) → map (map (λ v. v)) rows ≡ rows
    each [] = refl
    each (row ∷ rows) = λ i. map-id row i ∷ each rows i

-- what is read means what it does in programs
pub read_means : (names : List Name) (equality : Option ℕ) (cells given : List ℕ) (interpretation : Interpretation) →
    IsEqualityOf names equality → given ≡ cells → (program : ProgramTree) → program.cells ≡ cells →
    meanings_with equality given interpretation ≡ meanings_in names program interpretation
read_means names equality cells given interpretation is same program there =
    ap (λ (cs : List ℕ). meanings_with equality cs interpretation) (same ∙ sym there)
    ∙ same_meanings names equality program interpretation is

-- ---- what is read is ready

few_rows : (text : List ℕ) (names : List Name) (inputs : List ℕ) (domain : ℕ) (rows : InputRows ℕ) →
    SpellsInputs text names inputs domain rows →
    length (rows.stem ++ rows.cycle) < 2 ^ 32
few_rows text names inputs domain rows h =
    omega (
      arith,
      length-append rows.stem rows.cycle,
      length-append h.given.stem h.given.cycle,
      length-all_there (map (by_inputs h.gives.columns inputs) h.given.stem) rows.stem h.gives.stem,
      length-all_there (map (by_inputs h.gives.columns inputs) h.given.cycle) rows.cycle h.gives.cycle,
      length-map h.given.stem (by_inputs h.gives.columns inputs),
      length-map h.given.cycle (by_inputs h.gives.columns inputs),
      h.gives.in_range.so_far.so_far.few_rows,
    )

pub is_ready : (parts : RunParts) (input : RunInput) → SpellRunInput parts input → GivenFits input.given →
    IsInterpretation input.names input.program.cells input.interpretation →
    IsInputLoop input.interpretation.domain input.program.inputs input.rows → IsReady input
is_ready parts input h fits is loop =
    let read = h.program in
    let begins = with_uses_begin (flat_map entries_of_use (uses_of parts.program read.listing)) (given_names input.given) in
    record {
      given = fits;
      more_names = begins.0;
      names_are = read.names_are ∙ begins.1;
      over_names = written_program input.names input.program read.spelled.is_program read.spelled.is_writable;
      writable = read.spelled.is_writable;
      interpretation = is;
      rows = loop;
      few_rows = few_rows parts.inputs input.names input.program.inputs input.interpretation.domain input.rows h.inputs;
    }

module _ (input : RunInput) (ready : IsReady input) where
  -- ---- it can run

  pub can_run : CanRun (meanings_of_input input) input.program input.rows
  can_run = record {
    rows_fit = λ i row at. (each_at (IsRow input.interpretation.domain input.program.inputs) (input.rows.stem ++ input.rows.cycle) i row
        each_row at).0;
    few_rows = ready.few_rows;
    goes_on = step_there input.names input.program input.interpretation input.rows ready.over_names ready.interpretation ready.rows;
  }
    where
      each_row : AllByRecursion (IsRow input.interpretation.domain input.program.inputs) (input.rows.stem ++ input.rows.cycle)
      each_row = each_joined (IsRow input.interpretation.domain input.program.inputs) input.rows.stem input.rows.cycle
          (recursion_from_All _ input.rows.stem ready.rows.stem) (recursion_from_All _ input.rows.cycle ready.rows.cycle)

  module _ (run : RunTree ℕ) (first : IsFirstRun input run) where
    -- ---- its run can be written

    position_held : (t : ℕ) (p : PositionTree ℕ) → slice_get run.positions t ≡ Some p → position_is_held input.names p ≡ true
    position_held t p at =
        let step : IsStepOf (meanings_of_input input) input.program input.rows t p = first.is_run.positions t p at in
        let there = configuration_there input.names input.program input.interpretation input.rows ready.over_names
        ready.interpretation ready.rows t in
        let same = one_value (configuration_at (meanings_of_input input) input.program input.rows t) there.0 (configuration_of p)
        there.1 step.is_now in
        let done = action_there input.names input.program input.interpretation input.rows ready.over_names ready.interpretation
        ready.rows (configuration_of p)
        (subst (λ c. IsConfiguration input.names input.program input.interpretation input.rows ready.over_names ready.interpretation
        ready.rows c) same there.2) in
        let acts = one_value (action_in (meanings_of_input input) input.program input.rows (configuration_of p)) done.action
        step.action done.is step.does in
        ap (list_all (term_is_held input.names)) (step.assigns ∙ sym (ap (λ a. a.updates) acts))
        ∙ list_all_weaker (term_is_over input.names) (term_is_held input.names) (over_held input.names) done.action.updates
        done.acts.over_names

    pub run_held : RunIsHeld input.names run
    run_held = record {
      inputs = ap (list_all _) first.is_run.inputs
          ∙ inputs_held input.names input.program ready.over_names.is_program ready.writable;
      cells = ap (list_all _) first.is_run.cells
          ∙ cells_held input.names input.program ready.over_names.is_program ready.writable;
      outputs = ap (list_all _) first.is_run.outputs
          ∙ outputs_held input.names input.program ready.over_names.is_program ready.writable;
      positions = list_all_from_places (position_is_held input.names) run.positions position_held;
    }

    -- ---- its run can be judged

    speaks_judged : (f : FormulaTree) → IsFormulaOver input.names input.program f → IsJudged (meanings_of_input input) run f
    speaks_judged f speaks =
        decided_judged (meanings_of_input input) input.program input.rows run first.is_run (atoms f)
        (atoms_decided input.names input.program input.interpretation input.rows ready.over_names ready.interpretation ready.rows f speaks)

    whole_speaks : (spec : SpecTree) → SpecFits spec → (more : List Name) → input.names ≡ spec.names ++ more →
        HasGivenSignals (Some spec) input.program → IsFormulaOver input.names input.program (whole_formula spec)
    whole_speaks spec fits more names_are same =
        subst (λ (names : List Name). IsFormulaOver names input.program (whole_formula spec)) (sym names_are)
        (whole_still_speaks spec fits more input.program same.inputs same.cells same.outputs)

    given_judged : (given : Option SpecTree) → GivenFits given → (more : List Name) → input.names ≡ given_names given ++ more →
        HasGivenSignals given input.program → AllByRecursion (IsJudged (meanings_of_input input) run) (given_formulas given)
    given_judged None fits more names_are same = tt
    given_judged (Some spec) fits more names_are same =
        (speaks_judged (whole_formula spec) (whole_speaks spec fits more names_are same), tt)

    pub run_judged : HasGivenSignals input.given input.program →
        AllByRecursion (IsJudged (meanings_of_input input) run) (judged_formulas input)
    run_judged same =
        each_joined (IsJudged (meanings_of_input input) run) (map window_formula_of input.program.windows) (given_formulas input.given)
        (each_map (IsJudged (meanings_of_input input) run) window_formula_of input.program.windows
        (each_weaker (λ w. IsFormulaOver input.names input.program (window_formula_of w))
        (λ w. IsJudged (meanings_of_input input) run (window_formula_of w)) (λ w. speaks_judged (window_formula_of w)) input.program.windows
        (windows_speak input.names input.program ready.over_names)))
        (given_judged input.given ready.given ready.more_names ready.names_are same)

    -- ---- and the verdicts are those on the closed run

    verdict_same : (f : FormulaTree) → verdict_in (meanings_of_input input) run f ≡ meets (lasso_of input (shape_of run)) f 0
    verdict_same f =
        run_means (meanings_of_input input) input.program input.rows run first.is_run f 0
        (omega (arith, first.is_run.closes.goes_on))

    pub verdicts_same : (fs : List FormulaTree) →
        verdicts_in (meanings_of_input input) run fs ≡ map (λ f. meets (lasso_of input (shape_of run)) f 0) fs
    verdicts_same [] = refl
    verdicts_same (f ∷ fs) = λ i. verdict_same f i ∷ verdicts_same fs i

-- the reply with the verdicts is an outcome
pub traced_outcome : {E : Type 0} (input : RunInput) (ready : IsReady input) (run : RunTree ℕ) (r : Result Reply E) →
    Closes input run → HasGivenSignals input.given input.program →
    IfOk r (λ reply. reply ≡ trace_reply input.names run (is_some input.given) (verdicts_in (meanings_of_input input) run
    (judged_formulas input))) →
    IfOk r (InputOutcome input)
traced_outcome input ready run (Ok reply) closes same is =
    traced run closes same
    (is ∙ ap (trace_reply input.names run (is_some input.given)) (verdicts_same input ready run closes.is_first (judged_formulas input)))
traced_outcome input ready run (Err e) closes same is = tt

-- ---- in the words of the code: under meanings as they are read, and over rows as they are seen

module _ (given : Option SpecTree) (names : List Name) (program : ProgramTree) (interpretation : Interpretation) (inputs : InputLoop ℕ)
    (meanings : Meanings ℕ) (same : meanings ≡ meanings_in names program interpretation) where
  abbrev pub input_of : RunInput
  input_of = record {
    given = given;
    names = names;
    program = program;
    interpretation = interpretation;
    rows = rows_of inputs;
  }

  -- what holds of the meanings and the rows holds of them as they are seen
  to_seen : (P : Meanings ℕ → InputRows ℕ → Type 0) → P (meanings_of_input input_of) (rows_of inputs) →
      P meanings (rows_seen (λ v. v) inputs)
  to_seen P h =
      subst (λ (m : Meanings ℕ). P m (rows_seen (λ v. v) inputs)) (sym same)
      (subst (λ (rows : InputRows ℕ). P (meanings_of_input input_of) rows) (sym (seen_rows inputs)) h)

  from_seen : (P : Meanings ℕ → InputRows ℕ → Type 0) → P meanings (rows_seen (λ v. v) inputs) →
      P (meanings_of_input input_of) (rows_of inputs)
  from_seen P h =
      subst (λ (rows : InputRows ℕ). P (meanings_of_input input_of) rows) (seen_rows inputs)
      (subst (λ (m : Meanings ℕ). P m (rows_seen (λ v. v) inputs)) same h)

  pub can_run_seen : IsReady input_of → CanRun meanings program (rows_seen (λ v. v) inputs)
  can_run_seen ready = to_seen (λ m rows. CanRun m program rows) (can_run input_of ready)

  pub first_run_seen : (run : RunTree ℕ) → IsRunOf meanings program (rows_seen (λ v. v) inputs) run →
      IsFirstRepetition meanings program (rows_seen (λ v. v) inputs) (shape_of run) → IsFirstRun input_of run
  first_run_seen run is first = record {
    is_run = from_seen (λ m rows. IsRunOf m program rows run) is;
    is_first = from_seen (λ m rows. IsFirstRepetition m program rows (shape_of run)) first;
  }

  pub too_long_seen : {E : Type 0} (r : Result Reply E) →
      AreDifferent meanings program (rows_seen (λ v. v) inputs) (most_configurations + 1) →
      IfOk r (λ reply. reply ≡ fault_reply (Large RunLimit most_configurations)) → IfOk r (InputOutcome input_of)
  too_long_seen (Ok reply) different is =
      runs_on (from_seen (λ m rows. AreDifferent m program rows (most_configurations + 1)) different) is
  too_long_seen (Err e) different is = tt

  pub judged_seen : IsReady input_of → (run : RunTree ℕ) → IsFirstRun input_of run → HasGivenSignals given program →
      AllByRecursion (IsJudged meanings run) (formulas_to_judge program given)
  judged_seen ready run first signals =
      subst (λ (m : Meanings ℕ). AllByRecursion (IsJudged m run) (formulas_to_judge program given))
      (sym same) (run_judged input_of ready run first signals)

  pub traced_seen : {E : Type 0} (r : Result Reply E) → IsReady input_of → (run : RunTree ℕ) → Closes input_of run →
      HasGivenSignals given program →
      IfOk r (λ reply. reply ≡ trace_reply names run (is_some given) (verdicts_in meanings run
      (formulas_to_judge program given))) →
      IfOk r (InputOutcome input_of)
  traced_seen r ready run closes signals is =
      traced_outcome input_of ready run r closes signals
      (subst (λ (m : Meanings ℕ). IfOk r (λ reply. reply ≡
      trace_reply names run (is_some given) (verdicts_in m run (formulas_to_judge program given))))
      same is)

  pub other_seen : {E : Type 0} (r : Result Reply E) (run : RunTree ℕ) → Closes input_of run → (HasGivenSignals given program → ⊥) →
      IfOk r (λ reply. reply ≡ signals_reply) → IfOk r (InputOutcome input_of)
  other_seen (Ok reply) run closes other is = other_signals run closes other is
  other_seen (Err e) run closes other is = tt
