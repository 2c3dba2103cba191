-- The outcomes of each stage of `prove`.
use Rattle.std.proofs.Common.{◌≡◌, ℕ, ◌<◌, ◌≤◌, List, [], ◌++◌, All, length, ap, sym, ◌∙◌, subst}
use Rattle.std.specs.Prelude.{Option, Result, Ok, Err, IfOk}
use Rattle.tsl_terms.specs.SpecTree.{SpecTree, whole_formula}
use Rattle.tsl_terms.specs.WellFormed.{SpecFits}
use Rattle.tsl_reader.specs.declared.SpecError.{SpecError}
use Rattle.tsl_reader.specs.Spells.{Spells, HasCause, SpellsNoSpec}
use Rattle.letter_space.specs.SpaceTree.{SpaceTree}
use Rattle.letter_space.specs.SpecSpace.{spec_space}
use Rattle.machines.specs.declared.side.Side.TheVariants.{Controller}
use Rattle.machines.specs.MachineTree.{ControllerTree}
use Rattle.annotation_check.specs.Annotations.{number_of_pair}
use Rattle.clause_core.specs.Literals.{Lit}
use Rattle.clause_core.specs.Clauses.{IsIncreasing}
use Rattle.program_check.specs.declared.verdict.Limit.{Limit}
use Rattle.refutation_check.specs.declared.steps.Step.{Step}
use Rattle.refutation_text.specs.Parted.{SpellsRefutation}
use Rattle.refutation_text.specs.Written.{IsClauseOver, comment_text, refutation_text}
use Rattle.refutation_text.proofs.Parted.{commented_spelled}
use Rattle.refutation_text.proofs.Readable.{are_readable}
use Rattle.bounded_encoding.specs.Question.{QuestionTree}
use Rattle.bounded_encoding.specs.Variables.{variable_count}
use Rattle.bounded_encoding.specs.Encoding.{encoding}
use Rattle.bounded_encoding.specs.Answers.{IsFoundController, IsRefuted}
use Rattle.refinement_loop.specs.declared.outcome.Bound.TheVariants.{Fixed}
use Rattle.refinement_loop.specs.Questions.{IsAsked, HasFewClauses}
use Rattle.refinement_loop.specs.Outcomes.{IsSpentOn, IsLargeFor}
use Rattle.refinement_loop.proofs.OneAnswer.{none_of}
use Rattle.tsl_report.specs.declared.fault.Fault.{Fault}
use Rattle.formula_text.specs.FormulaText.{formula_text}
use Rattle.search_text.specs.SearchTexts.{spent_text}
use Rattle.command_words.specs.declared.task.ProveSizes.{ProveSizes}
use Rattle.tool_io.specs.declared.status.Status.TheVariants.{Done, Spent}
use Rattle.tool_io.specs.declared.reply.Reply.{Reply}
use Rattle.synthesis_commands.specs.QuestionRanges.{IsQuestionInRange}
use Rattle.synthesis_commands.specs.Prove.{IsProof, QuestionOutcome, proved, satisfiable, spent, too_large, satisfiable_reply}
use Rattle.synthesis_commands.specs.Prove.{ProveOutcome, refused, of_spec}
use Rattle.command_faults.specs.Refusals.{IsFaultOf, fault_at_limit}
use Rattle.command_faults.specs.Replies.{fault_reply}
use Rattle.synthesis_commands.proofs.FewVariables.{few_variables}
use Rattle.synthesis_commands.proofs.FormulaLines.{formula_in_line}
use Rattle.tool_io.proofs.Replying.{status_of, text_of}

-- the text of a refutation of the question's clauses behind the whole formula is that of a proof
is_proof : (sizes : ProveSizes) (spec : SpecTree) (q : QuestionTree) (count : ℕ) (list : List (List Lit)) (steps : List Step)
    (text : List ℕ) → IsQuestionInRange sizes → SpecFits spec → IsAsked Controller spec [] sizes.states (Fixed sizes.bound) q → length (encoding q) ≤ 2000000 →
    IsRefuted q count list steps → length steps < 200000000000000000 →
    text ≡ comment_text (formula_text spec.names (whole_formula spec)) ++ refutation_text count list steps →
    All (IsClauseOver count) list → All (λ step. IsIncreasing step.clause) steps → IsProof sizes spec text
is_proof sizes spec q count list steps text ranges fits asked few refuted short is over rising =
    let comment : List ℕ = formula_text spec.names (whole_formula spec) in
    let here : text ≡ comment_text comment ++ refutation_text (variable_count q) (encoding q) steps =
    is ∙ (λ i. comment_text comment ++ refutation_text (refuted.variables i) (refuted.clauses i) steps) in
    let each : All (IsClauseOver (variable_count q)) (encoding q) =
    subst (λ (v : ℕ). All (IsClauseOver v) (encoding q)) refuted.variables
    (subst (λ (cs : List (List Lit)). All (IsClauseOver count) cs) refuted.clauses over) in
    let small : variable_count q ≤ 1048576 = few_variables spec sizes.states sizes.bound q ranges.few_states ranges.small_bound asked in
    record {
      question = q;
      asked = asked;
      steps = steps;
      text_is = here;
      spelled = subst (λ (t : List ℕ). SpellsRefutation t (variable_count q) (encoding q)) (sym here)
          (commented_spelled comment (variable_count q) (encoding q) steps (formula_in_line spec.names fits.names (whole_formula spec))
          (record { few_variables = small; few_clauses = few; each = each })
          (are_readable (variable_count q) (encoding q) steps small few short refuted.refuting.numbered refuted.refuting.accepted rising)
          refuted.refuting.accepted);
      none = none_of spec [] sizes.states (Fixed sizes.bound) q asked few refuted.none;
    }

module _ {E : Type 0} (sizes : ProveSizes) where
  pub refused_outcome : (bytes : List ℕ) (error : SpecError) (fault : Fault) (r : Result Reply E) → HasCause bytes error →
      SpellsNoSpec bytes error → IsFaultOf bytes error fault → IfOk r (λ reply. reply ≡ fault_reply fault) →
      IfOk r (ProveOutcome sizes bytes)
  refused_outcome bytes error fault (Ok reply) cause none is_fault is =
      refused fault (record { error = error; cause = cause; spells_none = none; is_fault = is_fault }) is
  refused_outcome bytes error fault (Err e) cause none is_fault is = tt

  pub spec_outcome : (bytes : List ℕ) (spec : SpecTree) (r : Result Reply E) → Spells bytes spec → IfOk r (QuestionOutcome sizes spec) →
      IfOk r (ProveOutcome sizes bytes)
  spec_outcome bytes spec (Ok reply) spells outcome = of_spec spec spells outcome
  spec_outcome bytes spec (Err e) spells outcome = tt

  pub too_large_outcome : (spec : SpecTree) (limit : Limit) (fault : Fault) (r : Result Reply E) →
      IsLargeFor spec [] sizes.states (Fixed sizes.bound) limit → fault ≡ fault_at_limit limit → IfOk r (λ reply. reply ≡ fault_reply fault) →
      IfOk r (QuestionOutcome sizes spec)
  too_large_outcome spec limit fault (Ok reply) large is_limit is = too_large limit large (is ∙ ap fault_reply is_limit)
  too_large_outcome spec limit fault (Err e) large is_limit is = tt

module _ {E : Type 0} (sizes : ProveSizes) (spec : SpecTree) (q : QuestionTree) (asked : IsAsked Controller spec [] sizes.states (Fixed sizes.bound) q) where
  pub satisfiable_outcome : (c : ControllerTree) (most : ℕ) (numbers : List (Option ℕ)) (r : Result Reply E) → HasFewClauses q →
      IsFoundController q c most numbers → IfOk r (λ reply. reply ≡ satisfiable_reply) → IfOk r (QuestionOutcome sizes spec)
  satisfiable_outcome c most numbers (Ok reply) few found is = satisfiable (status_of is) (record {
    question = q;
    asked = asked;
    few = few;
    controller = c;
    number = number_of_pair q.automaton_states numbers;
    solution = found.solution;
    text_is = text_of is;
  })
  satisfiable_outcome c most numbers (Err e) few found is = tt

  pub proved_outcome : (count : ℕ) (list : List (List Lit)) (steps : List Step) (r : Result Reply E) → IsQuestionInRange sizes →
      SpecFits spec → length (encoding q) ≤ 2000000 → IsRefuted q count list steps →
      IfOk r (λ reply. length steps < 200000000000000000) → IfOk r (λ reply. reply.status ≡ Done) →
      IfOk r (λ reply. reply.text ≡ comment_text (formula_text spec.names (whole_formula spec)) ++ refutation_text count list steps) →
      IfOk r (λ reply. All (IsClauseOver count) list) → IfOk r (λ reply. All (λ step. IsIncreasing step.clause) steps) →
      IfOk r (QuestionOutcome sizes spec)
  proved_outcome count list steps (Ok reply) ranges fits few refuted short done is over rising =
      proved done (is_proof sizes spec q count list steps reply.text ranges fits asked few refuted short is over rising)
  proved_outcome count list steps (Err e) ranges fits few refuted short done is over rising = tt

  pub spent_outcome : (clauses : List (List Lit)) (space : SpaceTree) (r : Result Reply E) → space ≡ spec_space spec →
      IsSpentOn Controller spec [] sizes.states (Fixed sizes.bound) sizes.budget q.automaton_states q.edges clauses →
      IfOk r (λ reply. reply.status ≡ Spent) →
      IfOk r (λ reply. reply.text
      ≡ spent_text spec.names space Controller sizes.states sizes.bound [] q.automaton_states q.edges clauses) →
      IfOk r (QuestionOutcome sizes spec)
  spent_outcome clauses space (Ok reply) same trace is says = spent is (record {
    automaton_states = q.automaton_states;
    edges = q.edges;
    clauses = clauses;
    spent = trace;
    text_is = says
        ∙ ap (λ (s : SpaceTree). spent_text spec.names s Controller sizes.states sizes.bound [] q.automaton_states q.edges clauses) same;
  })
  spent_outcome clauses space (Err e) same trace is says = tt
