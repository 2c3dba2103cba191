-- Which status and which text the replies of `synth` have, and when there is one that is an answer.
use Rattle.std.proofs.Common.{◌≡◌, ◌≢◌, ℕ, true, List, [], ◌∷◌, ◌++◌, inl, inr, refl, ap, sym, ◌∙◌, subst, append-nil}
use Rattle.std.specs.Prelude.{◌⊎◌}
use Rattle.tsl_terms.specs.SpecTree.{SpecTree}
use Rattle.tsl_reader.specs.Spells.{Spells}
use Rattle.tsl_reader.proofs.Causes.{one_spec}
use Rattle.program_tree.specs.ProgramTree.{ProgramTree}
use Rattle.flow_program.specs.ProgramText.{program_text}
use Rattle.letter_space.specs.SpecSpace.{spec_space}
use Rattle.cobuchi_automata.specs.Automata.{EdgeTree}
use Rattle.clause_core.specs.Literals.{Lit}
use Rattle.machines.specs.declared.side.Side.{Side}
use Rattle.machines.specs.declared.side.Side.TheVariants.{Controller, Environment}
use Rattle.machines.specs.Rounds.{RoundTree, windows_of}
use Rattle.program_check.specs.declared.verdict.Limit.{Limit}
use Rattle.bounded_encoding.specs.Question.{QuestionTree}
use Rattle.refinement_loop.specs.declared.outcome.Search.{Search}
use Rattle.refinement_loop.specs.Questions.{IsAsked, HasFewClauses, HasSolution, HasNoSolution, IsWrittenFor}
use Rattle.refinement_loop.specs.Chains.{IsChain}
use Rattle.refinement_loop.specs.Outcomes.{IsSpentIn, IsLargeFor, IsLargeIn, at_controller, at_environment, IsLargeAfter}
use Rattle.refinement_loop.proofs.OneAnswer.{not_answered, not_both}
use Rattle.refinement_loop.proofs.OneOutcome.{first_has_none, told_first}
use Rattle.tsl_report.specs.FaultText.{fault_text}
use Rattle.search_text.specs.SearchTexts.{none_text, spent_text}
use Rattle.tool_io.specs.declared.status.Status.TheVariants.{Done, No, Large, Spent}
use Rattle.tool_io.specs.declared.reply.Reply.{Reply}
use Rattle.command_faults.specs.Refusals.{fault_at_limit}
use Rattle.command_faults.specs.Replies.{fault_reply}
use Rattle.tool_io.specs.Statuses.{is_answer}
use Rattle.synthesis_commands.specs.Synth.{states_of_side, bound_of_side, large_reply, written, told_none, spent, too_large, SynthOutcome, refused, of_spec}
use Rattle.command_faults.proofs.RefusalLaws.{not_refused}
use Rattle.tool_io.proofs.Replying.{comes_of_bytes, status_of, text_of}
use Rattle.command_faults.proofs.Statuses.{refusal_comes, limit_status, line_says, fault_says}

-- ---- statuses

pub synth_comes : (search : Search) (bytes : List ℕ) (reply : Reply) → SynthOutcome search bytes reply → comes_of_bytes reply.status ≡ true
synth_comes search bytes reply (refused fault h is) = ap comes_of_bytes (status_of is) ∙ refusal_comes bytes h.error fault h.is_fault
synth_comes search bytes reply (of_spec spec spells (written done h)) = ap comes_of_bytes done
synth_comes search bytes reply (of_spec spec spells (told_none is h)) = ap comes_of_bytes is
synth_comes search bytes reply (of_spec spec spells (spent is h)) = ap comes_of_bytes is
synth_comes search bytes reply (of_spec spec spells (too_large limit rounds h is)) = ap comes_of_bytes (status_of is)

-- ---- texts

front_is_empty : (front rest : List ℕ) → front ++ rest ≡ [] → front ≡ []
front_is_empty [] rest e = refl
front_is_empty (x ∷ front) rest e = cc

pub synth_says : (search : Search) (bytes : List ℕ) (reply : Reply) → SynthOutcome search bytes reply → reply.text ≢ []
synth_says search bytes reply (refused fault h is) e = fault_says fault reply is e
synth_says search bytes reply (of_spec spec spells (written done h)) e =
    let program : program_text spec.names h.program ≡ [] = sym h.spelled.text ∙ e in cc
synth_says search bytes reply (of_spec spec spells (told_none is h)) e =
    let none : none_text spec.names (spec_space spec) search.states h.bound h.rounds h.reason ≡ [] = sym h.text_is ∙ e in cc
synth_says search bytes reply (of_spec spec spells (spent is h)) e =
    let trace : spent_text spec.names (spec_space spec) h.side (states_of_side search h.side) (bound_of_side search h.bound h.side) h.rounds
    h.automaton_states h.edges h.clauses ≡ [] = sym h.text_is ∙ e in cc
synth_says search bytes reply (of_spec spec spells (too_large limit rounds h is)) e =
    line_says (fault_at_limit limit) (front_is_empty (fault_text (fault_at_limit limit)) _ (sym (text_of is) ∙ e))

-- ---- completeness

-- the first question, which each answer shows to be within its limits
module _ (search : Search) (spec : SpecTree) where
  abbrev IsFirstAsked : Type 0
  IsFirstAsked = (q : QuestionTree) × IsAsked Controller spec [] search.states search.bound q × HasFewClauses q

  asked_of_none : HasNoSolution spec [] search.states search.bound → IsFirstAsked
  asked_of_none none = (none.question, none.asked, none.few)

  asked_written : (rounds : List RoundTree) (program : ProgramTree) → IsChain spec search rounds →
      IsWrittenFor spec (windows_of rounds) search.states search.bound program → IsFirstAsked
  asked_written [] program chain h = (h.question, h.asked, h.few)
  asked_written (round ∷ rounds) program chain h = asked_of_none (first_has_none spec search round rounds chain)

  asked_none : (rounds : List RoundTree) → IsChain spec search rounds → HasNoSolution spec (windows_of rounds) search.states search.bound →
      HasNoSolution spec [] search.states search.bound
  asked_none [] chain h = h
  asked_none (round ∷ rounds) chain h = first_has_none spec search round rounds chain

  asked_spent : (rounds : List RoundTree) (side : Side) (automaton_states : ℕ) (edges : List EdgeTree) (clauses : List (List Lit)) →
      IsChain spec search rounds → IsSpentIn spec search (windows_of rounds) side automaton_states edges clauses → IsFirstAsked
  asked_spent [] Controller automaton_states edges clauses chain h = (h.question, h.asked, h.limits)
  asked_spent [] Environment automaton_states edges clauses chain h = asked_of_none h.0.none
  asked_spent (round ∷ rounds) side automaton_states edges clauses chain h = asked_of_none (first_has_none spec search round rounds chain)

  -- where a controller answers it, the first question is not refuted, and no limit of a later one is passed
  module _ (found : HasSolution spec [] search.states search.bound) where
    not_none : (rounds : List RoundTree) → IsChain spec search rounds → HasNoSolution spec (windows_of rounds) search.states search.bound → ⊥
    not_none rounds chain none = not_both spec [] search.states search.bound found (asked_none rounds chain none)

    at_first : (limit : Limit) → IsLargeIn spec search [] limit → IsLargeFor spec [] search.states search.bound limit
    at_first limit (at_controller large) = large
    at_first limit (at_environment goes_on large) = absurd (not_both spec [] search.states search.bound found goes_on.none)

    large_at_first : (limit : Limit) (rounds : List RoundTree) → IsLargeAfter spec search rounds limit →
        IsLargeFor spec [] search.states search.bound limit
    large_at_first limit [] after = at_first limit after.large
    large_at_first limit (round ∷ rounds) after =
        absurd (not_both spec [] search.states search.bound found (first_has_none spec search round rounds after.chain))

module _ (search : Search) (bytes : List ℕ) (spec : SpecTree) (spells : Spells bytes spec) where
  -- what holds of the specification that the bytes spell holds of another one that they spell
  of_other : (P : SpecTree → Type 0) (other : SpecTree) → Spells bytes other → P spec → P other
  of_other P other spelled holds = subst P (one_spec bytes spec other spells spelled) holds

  pub search_answers : (reply : Reply) → ((limit : Limit) (rounds : List RoundTree) → IsLargeAfter spec search rounds limit → ⊥) →
      SynthOutcome search bytes reply → is_answer reply.status ≡ true
  search_answers reply within (refused fault h is) = absurd (not_refused bytes spec h.error fault spells h.spells_none h.is_fault)
  search_answers reply within (of_spec other spelled (written done h)) = ap is_answer done
  search_answers reply within (of_spec other spelled (told_none is h)) = ap is_answer is
  search_answers reply within (of_spec other spelled (spent is h)) = ap is_answer is
  search_answers reply within (of_spec other spelled (too_large limit rounds h is)) =
      absurd (of_other (λ s. (l : Limit) (rs : List RoundTree) → IsLargeAfter s search rs l → ⊥) other spelled within limit rounds h)

  -- where a controller of the size has an annotation within the bound, the answer is not that none has
  module _ (found : HasSolution spec [] search.states search.bound) where
    found_of : (other : SpecTree) → Spells bytes other → HasSolution other [] search.states search.bound
    found_of other spelled = of_other (λ s. HasSolution s [] search.states search.bound) other spelled found

    pub controller_not_missed : (reply : Reply) → SynthOutcome search bytes reply → reply.status ≡ No → ⊥
    controller_not_missed reply (refused fault h is) told = not_refused bytes spec h.error fault spells h.spells_none h.is_fault
    controller_not_missed reply (of_spec other spelled (written done h)) told = let e : Done ≡ No = sym done ∙ told in cc
    controller_not_missed reply (of_spec other spelled (told_none is h)) told =
        not_none search other (found_of other spelled) h.rounds h.are_rounds.chain h.none
    controller_not_missed reply (of_spec other spelled (spent is h)) told = let e : Spent ≡ No = sym is ∙ told in cc
    controller_not_missed reply (of_spec other spelled (too_large limit rounds h is)) told =
        let e : Large ≡ No = sym (status_of is) ∙ told in cc

    -- but a program, or a trace, within the limits of the first question
    pub controller_found : (reply : Reply) → ((limit : Limit) → IsLargeFor spec [] search.states search.bound limit → ⊥) →
        SynthOutcome search bytes reply → (reply.status ≡ Done) ⊎ (reply.status ≡ Spent)
    controller_found reply within (refused fault h is) =
        absurd (not_refused bytes spec h.error fault spells h.spells_none h.is_fault)
    controller_found reply within (of_spec other spelled (written done h)) = inl done
    controller_found reply within (of_spec other spelled (told_none is h)) =
        absurd (not_none search other (found_of other spelled) h.rounds h.are_rounds.chain h.none)
    controller_found reply within (of_spec other spelled (spent is h)) = inr is
    controller_found reply within (of_spec other spelled (too_large limit rounds h is)) =
        absurd (of_other (λ s. (l : Limit) → IsLargeFor s [] search.states search.bound l → ⊥) other spelled within limit
        (large_at_first search other (found_of other spelled) limit rounds h))

  -- where a limit of the first question is passed, one of them is told, and no round
  module _ (limit : Limit) (large : IsLargeFor spec [] search.states search.bound limit) where
    large_of : (other : SpecTree) → Spells bytes other → IsLargeFor other [] search.states search.bound limit
    large_of other spelled = of_other (λ s. IsLargeFor s [] search.states search.bound limit) other spelled large

    not_asked : (other : SpecTree) → Spells bytes other → IsFirstAsked search other → ⊥
    not_asked other spelled asked =
        not_answered other [] search.states search.bound asked.0 limit asked.1 asked.2 (large_of other spelled)

    abbrev IsToldAlone : Reply → Type 0
    IsToldAlone reply = (told : Limit) × IsLargeFor spec [] search.states search.bound told × (reply ≡ fault_reply (fault_at_limit told))

    alone : (reply : Reply) (other : SpecTree) (named : Limit) (rounds : List RoundTree) → rounds ≡ [] →
        reply ≡ large_reply other named rounds → reply ≡ fault_reply (fault_at_limit named)
    alone reply other named [] none is =
        is ∙ (λ i. record { status = sym (limit_status named) i; text = append-nil (fault_text (fault_at_limit named)) i })
    alone reply other named (round ∷ rounds) none is = cc

    pub search_is_large : (reply : Reply) → SynthOutcome search bytes reply → IsToldAlone reply
    search_is_large reply (refused fault h is) = absurd (not_refused bytes spec h.error fault spells h.spells_none h.is_fault)
    search_is_large reply (of_spec other spelled (written done h)) =
        absurd (not_asked other spelled (asked_written search other h.rounds h.program h.are_rounds.chain h.controlled))
    search_is_large reply (of_spec other spelled (told_none is h)) =
        absurd (not_asked other spelled (asked_of_none search other (asked_none search other h.rounds h.are_rounds.chain h.none)))
    search_is_large reply (of_spec other spelled (spent is h)) =
        absurd (not_asked other spelled
        (asked_spent search other h.rounds h.side h.automaton_states h.edges h.clauses h.are_rounds.chain h.spent))
    search_is_large reply (of_spec other spelled (too_large named rounds h is)) =
        let first = told_first other search limit (large_of other spelled) named rounds h in (
          named,
          subst (λ (s : SpecTree). IsLargeFor s [] search.states search.bound named) (one_spec bytes other spec spelled spells) first.1,
          alone reply other named rounds first.0 is,
        )
