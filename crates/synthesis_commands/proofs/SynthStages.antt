-- The outcomes of each stage of `synth`.
use Rattle.std.proofs.Common.{◌≡◌, ◌∙◌, ℕ, List, [], ◌++◌, map, refl, ap, sym, append-nil, arith}
use Rattle.std.specs.Prelude.{Result, Ok, Err, IfOk}
use Rattle.std.proofs.lemmas.List.{length-map}
use Rattle.tsl_terms.specs.SpecTree.{SpecTree}
use Rattle.tsl_reader.specs.declared.SpecError.{SpecError}
use Rattle.tsl_reader.specs.Spells.{Spells, HasCause, SpellsNoSpec}
use Rattle.program_tree.specs.declared.program.Program.{Program}
use Rattle.flow_program.specs.ProgramText.{ProgramText}
use Rattle.program_tree.specs.ProgramView.{program_tree}
use Rattle.tsl_meaning.specs.Promise.{Realizes}
use Rattle.letter_space.specs.SpaceTree.{SpaceTree}
use Rattle.letter_space.specs.SpecSpace.{spec_space}
use Rattle.cobuchi_automata.specs.declared.automaton.Automaton.{Automaton}
use Rattle.cobuchi_automata.specs.Edges.{edge_trees}
use Rattle.machines.specs.declared.rounds.Round.{Round}
use Rattle.machines.specs.declared.side.Side.{Side}
use Rattle.machines.specs.MachineView.{round_tree}
use Rattle.machines.specs.Rounds.{RoundTree, windows_of}
use Rattle.clause_core.specs.Literals.{Lit}
use Rattle.program_check.specs.declared.verdict.Limit.{Limit}
use Rattle.program_check.specs.declared.verdict.Verdict.TheVariants.{Yes}
use Rattle.program_check.specs.Verdicts.{IsVerdict}
use Rattle.tsl_terms.specs.WindowTree.{WindowTree}
use Rattle.refinement_loop.specs.Questions.{HasNoSolution}
use Rattle.full_bound.specs.FullBound.{AllFail}
use Rattle.full_bound.proofs.AllFailing.{all_fail}
use Rattle.refinement_loop.specs.declared.outcome.Bound.{Bound}
use Rattle.refinement_loop.specs.declared.outcome.Bound.TheVariants.{Fixed, Full}
use Rattle.refinement_loop.specs.declared.outcome.Search.{Search}
use Rattle.refinement_loop.specs.declared.outcome.Reason.{Reason}
use Rattle.refinement_loop.specs.declared.outcome.Reason.TheVariants.{Rounds, NoCounter, Genuine}
use Rattle.refinement_loop.specs.declared.outcome.Outcome.TheVariants as outcomes
use Rattle.refinement_loop.specs.Outcomes.{HasReason, IsOutcome, IsLastBound, IsLargeFor, at_controller, IsLargeAfter}
use Rattle.tsl_report.specs.declared.fault.Fault.{Fault}
use Rattle.tsl_report.specs.FaultText.{fault_text}
use Rattle.environment_text.specs.RoundTexts.{rounds_text}
use Rattle.search_text.specs.SearchTexts.{none_text, spent_text}
use Rattle.tool_io.specs.declared.status.Status.TheVariants.{Done, No, Large, Spent}
use Rattle.tool_io.specs.declared.reply.Reply.{Reply}
use Rattle.synthesis_commands.specs.internal.SearchReasons.{reason_told}
use Rattle.command_faults.specs.Refusals.{IsFaultOf, fault_at_limit}
use Rattle.command_faults.specs.Replies.{fault_reply}
use Rattle.synthesis_commands.specs.Synth.{WhereFull, HasReasonTold, states_of_side, bound_of_side, SearchOutcome, written, told_none, spent, too_large}
use Rattle.synthesis_commands.specs.Synth.{SynthOutcome, refused, of_spec}

-- the reason, as it is told
reason_holds : (search : Search) (spec : SpecTree) (rounds : List RoundTree) (reason : Reason) →
    HasReason spec search (windows_of rounds) reason → HasReasonTold search spec rounds (reason_told search reason)
reason_holds search spec rounds Rounds has = (refl, sym (length-map rounds (λ r. r.window)) ∙ has)
reason_holds search spec rounds NoCounter has = (has.0, refl, refl, has.1)
reason_holds search spec rounds (Genuine e) has = has

-- what is worth more where the bound is the full one
where_full : (spec : SpecTree) (windows : List WindowTree) (states : ℕ) (bound : Bound) → HasNoSolution spec windows states bound →
    WhereFull bound (AllFail spec windows states)
where_full spec windows states (Fixed number) none = tt
where_full spec windows states Full none = all_fail spec windows states none

module _ {E : Type 0} (search : Search) where
  pub refused_outcome : (bytes : List ℕ) (error : SpecError) (fault : Fault) (r : Result Reply E) → HasCause bytes error →
      SpellsNoSpec bytes error → IsFaultOf bytes error fault → IfOk r (λ reply. reply ≡ fault_reply fault) →
      IfOk r (SynthOutcome search bytes)
  refused_outcome bytes error fault (Ok reply) cause none is_fault is =
      refused fault (record { error = error; cause = cause; spells_none = none; is_fault = is_fault }) is
  refused_outcome bytes error fault (Err e) cause none is_fault is = tt

  pub spec_outcome : (bytes : List ℕ) (spec : SpecTree) (r : Result Reply E) → Spells bytes spec → IfOk r (SearchOutcome search spec) →
      IfOk r (SynthOutcome search bytes)
  spec_outcome bytes spec (Ok reply) spells outcome = of_spec spec spells outcome
  spec_outcome bytes spec (Err e) spells outcome = tt

  module _ (spec : SpecTree) where
    pub written_outcome : (rounds : List Round) (program : Program) (bound : ℕ) (r : Result Reply E) →
        IsOutcome spec search (outcomes.Written rounds program) → IsLastBound spec search (outcomes.Written rounds program) bound →
        IsVerdict spec (program_tree program) bound Yes →
        Realizes spec (program_tree program) → IfOk r (λ reply. reply.status ≡ Done) →
        IfOk r (λ reply. ProgramText reply.text spec.names (program_tree program)) → IfOk r (SearchOutcome search spec)
    written_outcome rounds program bound (Ok reply) outcome its accepted realizes done spelled = written done (record {
      rounds = map round_tree rounds;
      are_rounds = record { chain = outcome.chain; few = outcome.few_rounds };
      program = program_tree program;
      spelled = spelled;
      realizes = realizes;
      controlled = outcome.answer;
      bound = bound;
      has_bound = its;
      accepted = accepted;
    })
    written_outcome rounds program bound (Err e) outcome its accepted realizes done spelled = tt

    pub none_outcome : (rounds : List Round) (reason : Reason) (bound : ℕ) (space : SpaceTree) (r : Result Reply E) →
        space ≡ spec_space spec → IsOutcome spec search (outcomes.None rounds reason) →
        IsLastBound spec search (outcomes.None rounds reason) bound → IfOk r (λ reply. reply.status ≡ No) →
        IfOk r (λ reply. reply.text ≡ none_text spec.names space search.states bound (map round_tree rounds) (reason_told search reason)) →
        IfOk r (SearchOutcome search spec)
    none_outcome rounds reason bound space (Ok reply) same outcome its is says = told_none is (record {
      rounds = map round_tree rounds;
      are_rounds = record { chain = outcome.chain; few = outcome.few_rounds };
      none = outcome.answer.0;
      failing = where_full spec (windows_of (map round_tree rounds)) search.states search.bound outcome.answer.0;
      bound = bound;
      has_bound = its;
      reason = reason_told search reason;
      has_reason = reason_holds search spec (map round_tree rounds) reason outcome.answer.1;
      text_is = says
          ∙ ap (λ (s : SpaceTree). none_text spec.names s search.states bound (map round_tree rounds) (reason_told search reason)) same;
    })
    none_outcome rounds reason bound space (Err e) same outcome its is says = tt

    pub spent_outcome : (rounds : List Round) (side : Side) (automaton : Automaton) (clauses : List (List Lit)) (space : SpaceTree)
        (number states bound : ℕ) (r : Result Reply E) → space ≡ spec_space spec → states ≡ states_of_side search side →
        bound ≡ bound_of_side search number side → IsOutcome spec search (outcomes.Spent rounds side automaton clauses) →
        IsLastBound spec search (outcomes.Spent rounds side automaton clauses) number →
        IfOk r (λ reply. reply.status ≡ Spent) →
        IfOk r (λ reply. reply.text
        ≡ spent_text spec.names space side states bound (map round_tree rounds) automaton.states (edge_trees automaton.edges) clauses) →
        IfOk r (SearchOutcome search spec)
    spent_outcome rounds side automaton clauses space number states bound (Ok reply) same has_states has_bound outcome its is says = spent is (record {
      rounds = map round_tree rounds;
      are_rounds = record { chain = outcome.chain; few = outcome.few_rounds };
      bound = number;
      has_bound = its;
      side = side;
      automaton_states = automaton.states;
      edges = edge_trees automaton.edges;
      clauses = clauses;
      spent = outcome.answer;
      text_is = says
          ∙ (λ i. spent_text spec.names (same i) side (has_states i) (has_bound i) (map round_tree rounds) automaton.states
          (edge_trees automaton.edges) clauses);
    })
    spent_outcome rounds side automaton clauses space number states bound (Err e) same has_states has_bound outcome its is says = tt

    pub too_large_outcome : (limit : Limit) (rounds : List Round) (space : SpaceTree) (r : Result Reply E) → space ≡ spec_space spec →
        IsLargeAfter spec search (map round_tree rounds) limit → IfOk r (λ reply. reply.status ≡ Large) →
        IfOk r (λ reply. reply.text ≡ fault_text (fault_at_limit limit) ++ rounds_text spec.names space (map round_tree rounds)) →
        IfOk r (SearchOutcome search spec)
    too_large_outcome limit rounds space (Ok reply) same large is says =
        too_large limit (map round_tree rounds) large (λ i. record { status = is i; text = told i })
      where
        told : reply.text ≡ fault_text (fault_at_limit limit) ++ rounds_text spec.names (spec_space spec) (map round_tree rounds)
        told = says ∙ ap (λ (s : SpaceTree). fault_text (fault_at_limit limit) ++ rounds_text spec.names s (map round_tree rounds)) same
    too_large_outcome limit rounds space (Err e) same large is says = tt

    -- before any round
    pub at_once_outcome : (limit : Limit) (r : Result Reply E) → IsLargeFor spec [] search.states search.bound limit →
        IfOk r (λ reply. reply.status ≡ Large) → IfOk r (λ reply. reply.text ≡ fault_text (fault_at_limit limit)) →
        IfOk r (SearchOutcome search spec)
    at_once_outcome limit (Ok reply) large is says =
        too_large limit [] (record { chain = tt; few_rounds = omega arith; large = at_controller large })
        (λ i. record { status = is i; text = (says ∙ sym (append-nil (fault_text (fault_at_limit limit)))) i })
    at_once_outcome limit (Err e) large is says = tt
