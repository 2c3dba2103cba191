-- Which status and which text the replies of `prove` have, and when there is one that is an answer.
use Rattle.std.proofs.Common.{◌≡◌, ◌≢◌, ℕ, true, false, List, [], ap, sym, ◌∙◌, subst}
use Rattle.std.specs.Prelude.{codes}
use Rattle.tsl_terms.specs.SpecTree.{SpecTree}
use Rattle.tsl_reader.specs.Spells.{Spells}
use Rattle.tsl_reader.proofs.Causes.{one_spec}
use Rattle.letter_space.specs.SpecSpace.{spec_space}
use Rattle.machines.specs.declared.side.Side.TheVariants.{Controller}
use Rattle.program_check.specs.declared.verdict.Limit.{Limit}
use Rattle.refinement_loop.specs.declared.outcome.Bound.TheVariants.{Fixed}
use Rattle.refinement_loop.specs.Questions.{HasSolution}
use Rattle.refinement_loop.specs.Outcomes.{IsLargeFor}
use Rattle.refinement_loop.proofs.OneAnswer.{not_answered, not_both}
use Rattle.search_text.specs.SearchTexts.{spent_text}
use Rattle.command_words.specs.declared.task.ProveSizes.{ProveSizes}
use Rattle.tool_io.specs.declared.status.Status.TheVariants.{Done, No, Large, Spent}
use Rattle.tool_io.specs.declared.reply.Reply.{Reply}
use Rattle.synthesis_commands.specs.Prove.{proof_text, proved, satisfiable, spent, too_large, ProveOutcome, refused, of_spec}
use Rattle.command_faults.specs.Refusals.{fault_at_limit}
use Rattle.tool_io.specs.Statuses.{is_answer}
use Rattle.tool_io.proofs.Replying.{comes_of_bytes, status_of}
use Rattle.command_faults.proofs.Statuses.{refusal_comes, limit_comes, limit_is_large, limit_status, fault_says}
use Rattle.command_faults.proofs.RefusalLaws.{not_refused}

-- ---- statuses

pub prove_comes : (sizes : ProveSizes) (bytes : List ℕ) (reply : Reply) → ProveOutcome sizes bytes reply →
    comes_of_bytes reply.status ≡ true
prove_comes sizes bytes reply (refused fault h is) = ap comes_of_bytes (status_of is) ∙ refusal_comes bytes h.error fault h.is_fault
prove_comes sizes bytes reply (of_spec spec spells (proved done h)) = ap comes_of_bytes done
prove_comes sizes bytes reply (of_spec spec spells (satisfiable is h)) = ap comes_of_bytes is
prove_comes sizes bytes reply (of_spec spec spells (spent is h)) = ap comes_of_bytes is
prove_comes sizes bytes reply (of_spec spec spells (too_large limit h is)) = ap comes_of_bytes (status_of is) ∙ limit_comes limit

-- ---- texts

pub prove_says : (sizes : ProveSizes) (bytes : List ℕ) (reply : Reply) → ProveOutcome sizes bytes reply → reply.text ≢ []
prove_says sizes bytes reply (refused fault h is) e = fault_says fault reply is e
prove_says sizes bytes reply (of_spec spec spells (proved done h)) e =
    let proof : proof_text spec h.question h.steps ≡ [] = sym h.text_is ∙ e in cc
prove_says sizes bytes reply (of_spec spec spells (satisfiable is h)) e =
    let says : codes "satisfiable\n" ≡ [] = sym h.text_is ∙ e in cc
prove_says sizes bytes reply (of_spec spec spells (spent is h)) e =
    let trace : spent_text spec.names (spec_space spec) Controller sizes.states sizes.bound [] h.automaton_states h.edges h.clauses ≡ []
    = sym h.text_is ∙ e in cc
prove_says sizes bytes reply (of_spec spec spells (too_large limit h is)) e = fault_says (fault_at_limit limit) reply is e

-- ---- completeness

pub question_answers : (sizes : ProveSizes) (bytes : List ℕ) (spec : SpecTree) (reply : Reply) → Spells bytes spec →
    ((limit : Limit) → IsLargeFor spec [] sizes.states (Fixed sizes.bound) limit → ⊥) → ProveOutcome sizes bytes reply → is_answer reply.status ≡ true
question_answers sizes bytes spec reply spells within (refused fault h is) =
    absurd (not_refused bytes spec h.error fault spells h.spells_none h.is_fault)
question_answers sizes bytes spec reply spells within (of_spec other spelled (proved done h)) = ap is_answer done
question_answers sizes bytes spec reply spells within (of_spec other spelled (satisfiable is h)) = ap is_answer is
question_answers sizes bytes spec reply spells within (of_spec other spelled (spent is h)) = ap is_answer is
question_answers sizes bytes spec reply spells within (of_spec other spelled (too_large limit h is)) =
    absurd (within limit
    (subst (λ (s : SpecTree). IsLargeFor s [] sizes.states (Fixed sizes.bound) limit) (one_spec bytes other spec spelled spells) h))

-- where a controller of the size has an annotation within the bound, the answer is no proof
pub controller_not_refuted : (sizes : ProveSizes) (bytes : List ℕ) (spec : SpecTree) (reply : Reply) → Spells bytes spec →
    HasSolution spec [] sizes.states (Fixed sizes.bound) → ProveOutcome sizes bytes reply → reply.status ≡ Done → ⊥
controller_not_refuted sizes bytes spec reply spells found (refused fault h is) done =
    not_refused bytes spec h.error fault spells h.spells_none h.is_fault
controller_not_refuted sizes bytes spec reply spells found (of_spec other spelled (proved is h)) done =
    not_both other [] sizes.states (Fixed sizes.bound)
    (subst (λ (s : SpecTree). HasSolution s [] sizes.states (Fixed sizes.bound)) (one_spec bytes spec other spells spelled) found) h.none
controller_not_refuted sizes bytes spec reply spells found (of_spec other spelled (satisfiable is h)) done =
    let e : No ≡ Done = sym is ∙ done in cc
controller_not_refuted sizes bytes spec reply spells found (of_spec other spelled (spent is h)) done =
    let e : Spent ≡ Done = sym is ∙ done in cc
controller_not_refuted sizes bytes spec reply spells found (of_spec other spelled (too_large limit h is)) done =
    let e : false ≡ true = sym (limit_is_large limit) ∙ (sym (ap is_answer (status_of is)) ∙ ap is_answer done) in cc

-- where a limit is passed, that is what is told
pub question_is_large : (sizes : ProveSizes) (bytes : List ℕ) (spec : SpecTree) (reply : Reply) (limit : Limit) → Spells bytes spec →
    IsLargeFor spec [] sizes.states (Fixed sizes.bound) limit → ProveOutcome sizes bytes reply → reply.status ≡ Large
question_is_large sizes bytes spec reply limit spells large (refused fault h is) =
    absurd (not_refused bytes spec h.error fault spells h.spells_none h.is_fault)
question_is_large sizes bytes spec reply limit spells large (of_spec other spelled (proved is h)) =
    absurd (not_answered other [] sizes.states (Fixed sizes.bound) h.none.question limit h.none.asked h.none.few
    (subst (λ (s : SpecTree). IsLargeFor s [] sizes.states (Fixed sizes.bound) limit) (one_spec bytes spec other spells spelled) large))
question_is_large sizes bytes spec reply limit spells large (of_spec other spelled (satisfiable is h)) =
    absurd (not_answered other [] sizes.states (Fixed sizes.bound) h.question limit h.asked h.few
    (subst (λ (s : SpecTree). IsLargeFor s [] sizes.states (Fixed sizes.bound) limit) (one_spec bytes spec other spells spelled) large))
question_is_large sizes bytes spec reply limit spells large (of_spec other spelled (spent is h)) =
    absurd (not_answered other [] sizes.states (Fixed sizes.bound) h.spent.question limit h.spent.asked h.spent.limits
    (subst (λ (s : SpecTree). IsLargeFor s [] sizes.states (Fixed sizes.bound) limit) (one_spec bytes spec other spells spelled) large))
question_is_large sizes bytes spec reply limit spells large (of_spec other spelled (too_large named h is)) =
    status_of is ∙ limit_status named
