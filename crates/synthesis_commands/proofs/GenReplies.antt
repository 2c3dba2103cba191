-- Which status and which text the replies of `gen` have, and when there is one that is an answer.
use Rattle.std.proofs.Common.{◌≡◌, ◌≢◌, ℕ, true, false, [], ap, sym, ◌∙◌, subst}
use Rattle.tsl_terms.specs.SpecTree.{SpecTree}
use Rattle.tsl_reader.specs.Spells.{Spells}
use Rattle.tsl_reader.proofs.Causes.{one_spec}
use Rattle.letter_space.specs.SpecSpace.{spec_space}
use Rattle.machines.specs.declared.side.Side.TheVariants.{Controller}
use Rattle.program_check.specs.declared.verdict.Limit.{Limit}
use Rattle.refinement_loop.specs.declared.outcome.Bound.TheVariants.{Fixed}
use Rattle.refinement_loop.specs.Questions.{HasSolution}
use Rattle.refinement_loop.specs.Outcomes.{IsLargeFor}
use Rattle.refinement_loop.proofs.OneAnswer.{not_answered, not_both}
use Rattle.generator.specs.Generated.{generated_text}
use Rattle.search_text.specs.SearchTexts.{spent_text}
use Rattle.tool_io.specs.declared.status.Status.TheVariants.{Done, No, Large, Spent}
use Rattle.tool_io.specs.declared.reply.Reply.{Reply}
use Rattle.synthesis_commands.specs.Gen.{GenOutcome, found, none, spent, too_large, bits_summary}
use Rattle.command_faults.specs.Refusals.{fault_at_limit}
use Rattle.tool_io.specs.Statuses.{is_answer}
use Rattle.tool_io.proofs.Replying.{comes_of_bytes, status_of}
use Rattle.command_faults.proofs.Statuses.{limit_comes, limit_is_large, limit_status, fault_says}

pub gen_comes : (n : ℕ) (reply : Reply) → GenOutcome n reply → comes_of_bytes reply.status ≡ true
gen_comes n reply (spec, spells, found done h) = ap comes_of_bytes done
gen_comes n reply (spec, spells, none is h) = ap comes_of_bytes is
gen_comes n reply (spec, spells, spent is h) = ap comes_of_bytes is
gen_comes n reply (spec, spells, too_large limit h is) = ap comes_of_bytes (status_of is) ∙ limit_comes limit

pub gen_says : (n : ℕ) (reply : Reply) → GenOutcome n reply → reply.text ≢ []
gen_says n reply (spec, spells, found done h) e = let text : bits_summary n (spec_space spec) true ≡ [] = sym h.text_is ∙ e in cc
gen_says n reply (spec, spells, none is h) e = let text : bits_summary n (spec_space spec) false ≡ [] = sym h.text_is ∙ e in cc
gen_says n reply (spec, spells, spent is h) e =
    let text : spent_text spec.names (spec_space spec) Controller n n [] h.automaton_states h.edges h.clauses ≡ [] = sym h.text_is ∙ e in
    cc
gen_says n reply (spec, spells, too_large limit h is) e = fault_says (fault_at_limit limit) reply is e

-- within the limits the reply is an answer, and where a limit is passed, that is told
pub gen_answers : (n : ℕ) (spec : SpecTree) (reply : Reply) → Spells (generated_text n) spec →
    ((limit : Limit) → IsLargeFor spec [] n (Fixed n) limit → ⊥) → GenOutcome n reply → is_answer reply.status ≡ true
gen_answers n spec reply spells within (other, same, found done h) = ap is_answer done
gen_answers n spec reply spells within (other, same, none is h) = ap is_answer is
gen_answers n spec reply spells within (other, same, spent is h) = ap is_answer is
gen_answers n spec reply spells within (other, same, too_large limit h is) =
    absurd (within limit (subst (λ (s : SpecTree). IsLargeFor s [] n (Fixed n) limit) (one_spec (generated_text n) other spec same spells) h))

pub gen_is_large : (n : ℕ) (spec : SpecTree) (reply : Reply) (limit : Limit) → Spells (generated_text n) spec →
    IsLargeFor spec [] n (Fixed n) limit → GenOutcome n reply → reply.status ≡ Large
gen_is_large n spec reply limit spells large (other, same, found is h) =
    absurd (not_answered other [] n (Fixed n) h.controlled.question limit h.controlled.asked h.controlled.few
    (subst (λ (s : SpecTree). IsLargeFor s [] n (Fixed n) limit) (one_spec (generated_text n) spec other spells same) large))
gen_is_large n spec reply limit spells large (other, same, none is h) =
    absurd (not_answered other [] n (Fixed n) h.none.question limit h.none.asked h.none.few
    (subst (λ (s : SpecTree). IsLargeFor s [] n (Fixed n) limit) (one_spec (generated_text n) spec other spells same) large))
gen_is_large n spec reply limit spells large (other, same, spent is h) =
    absurd (not_answered other [] n (Fixed n) h.spent.question limit h.spent.asked h.spent.limits
    (subst (λ (s : SpecTree). IsLargeFor s [] n (Fixed n) limit) (one_spec (generated_text n) spec other spells same) large))
gen_is_large n spec reply limit spells large (other, same, too_large told h is) = status_of is ∙ limit_status told

-- where a controller of the size has an annotation within the bound, the answer is not that none has
pub controller_not_overlooked : (n : ℕ) (spec : SpecTree) (reply : Reply) → Spells (generated_text n) spec → HasSolution spec [] n (Fixed n) →
    GenOutcome n reply → reply.status ≡ No → ⊥
controller_not_overlooked n spec reply spells solution (other, same, found is h) is_no = let e : Done ≡ No = sym is ∙ is_no in cc
controller_not_overlooked n spec reply spells solution (other, same, none is h) is_no =
    not_both other [] n (Fixed n) (subst (λ (s : SpecTree). HasSolution s [] n (Fixed n)) (one_spec (generated_text n) spec other spells same) solution)
    h.none
controller_not_overlooked n spec reply spells solution (other, same, spent is h) is_no = let e : Spent ≡ No = sym is ∙ is_no in cc
controller_not_overlooked n spec reply spells solution (other, same, too_large limit h is) is_no =
    let e : false ≡ true = sym (limit_is_large limit) ∙ (sym (ap is_answer (status_of is)) ∙ ap is_answer is_no) in cc
