use Rattle.std.proofs.Common.{subst}
use Rattle.tsl_terms.specs.SpecView.{spec_tree}
use Rattle.letter_space.specs.SpecSpace.{HasSpaceCause}
use Rattle.program_check.specs.declared.verdict.Limit.TheVariants.{Predicates, Bits}
use Rattle.synthesis_commands.proofs.SynthStages.{at_once_outcome}
use Rattle.synthesis_commands.proofs.synthesis.reply_to_search.Goals as goal

pub returns-in-Err-Predicates : goal.returns-in-Err-Predicates
returns-in-Err-Predicates c =
    at_once_outcome c.args.search.now (spec_tree c.args.spec.now) Predicates c.too_many_bits.result
    (subst (HasSpaceCause (spec_tree c.args.spec.now)) c.in-Err-Predicates.field-0-is c.in-Err-Predicates.ensures.cause)
    c.too_many_bits.ensures.status c.too_many_bits.ensures.text

pub returns-in-Err-Bits : goal.returns-in-Err-Bits
returns-in-Err-Bits c =
    at_once_outcome c.args.search.now (spec_tree c.args.spec.now) Bits c.too_many_bits-in-Err-Bits.result
    (subst (HasSpaceCause (spec_tree c.args.spec.now)) c.in-Err-Bits.field-0-is c.in-Err-Bits.ensures.cause)
    c.too_many_bits-in-Err-Bits.ensures.status c.too_many_bits-in-Err-Bits.ensures.text
