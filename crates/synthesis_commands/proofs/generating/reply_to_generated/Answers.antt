use Rattle.std.proofs.Common.{subst}
use Rattle.tsl_terms.specs.SpecView.{spec_tree}
use Rattle.letter_space.specs.SpecSpace.{HasSpaceCause}
use Rattle.program_check.specs.declared.verdict.Limit.TheVariants.{Predicates, Bits}
use Rattle.synthesis_commands.proofs.GenStages.{bits_outcome}
use Rattle.synthesis_commands.proofs.generating.reply_to_generated.Goals as goal

pub returns-in-Err-Predicates : goal.returns-in-Err-Predicates
returns-in-Err-Predicates c =
    bits_outcome c.args.n (spec_tree c.args.spec.now) c.fault_reply.result Predicates c.fault_of_limit.result
    (subst (HasSpaceCause (spec_tree c.args.spec.now)) c.in-Err-Predicates.field-0-is c.in-Err-Predicates.ensures.cause)
    c.fault_of_limit.ensures c.fault_reply.ensures

pub returns-in-Err-Bits : goal.returns-in-Err-Bits
returns-in-Err-Bits c =
    bits_outcome c.args.n (spec_tree c.args.spec.now) c.fault_reply-in-Err-Bits.result Bits c.fault_of_limit-in-Err-Bits.result
    (subst (HasSpaceCause (spec_tree c.args.spec.now)) c.in-Err-Bits.field-0-is c.in-Err-Bits.ensures.cause)
    c.fault_of_limit-in-Err-Bits.ensures c.fault_reply-in-Err-Bits.ensures
