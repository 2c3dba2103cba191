use Rattle.std.proofs.Common.{[], subst}
use Rattle.tsl_terms.specs.SpecView.{spec_tree}
use Rattle.program_check.specs.declared.verdict.CheckError.{CheckError}
use Rattle.refinement_loop.specs.declared.outcome.Bound.TheVariants.{Fixed}
use Rattle.refinement_loop.specs.Outcomes.{HasAskCause}
use Rattle.synthesis_commands.proofs.ProveStages.{too_large_outcome}
use Rattle.synthesis_commands.proofs.proving.reply_to_question.Goals as goal

pub returns-in-Err-Large : goal.returns-in-Err-Large
returns-in-Err-Large c =
    too_large_outcome c.args.sizes.now (spec_tree c.args.spec.now) c.in-Err-Large.limit c.fault_of_limit.result c.fault_reply.result
    (subst (λ (e : CheckError). HasAskCause (spec_tree c.args.spec.now) [] c.args.sizes.now.states (Fixed c.args.sizes.now.bound) e)
    c.in-Err-Large.field-0-is c.in-Err-Large.ensures.cause)
    c.fault_of_limit.ensures c.fault_reply.ensures
