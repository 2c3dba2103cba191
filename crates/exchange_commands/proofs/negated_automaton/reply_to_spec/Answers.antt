use Rattle.std.proofs.Common.{subst}
use Rattle.tsl_terms.specs.SpecView.{spec_tree}
use Rattle.program_check.specs.declared.verdict.CheckError.{CheckError}
use Rattle.exchange_commands.specs.Automaton.{HasAutomatonCause}
use Rattle.exchange_commands.proofs.ExchangeStages.{automaton_told, limit_told}
use Rattle.exchange_commands.proofs.negated_automaton.reply_to_spec.Goals as goal

pub returns-in-Ok : goal.returns-in-Ok
returns-in-Ok c = automaton_told (spec_tree c.args.spec.now) c.automaton_reply.result c.automaton_reply.ensures

pub returns-in-Err-Large : goal.returns-in-Err-Large
returns-in-Err-Large c =
    limit_told (spec_tree c.args.spec.now) c.in-Err-Large.limit c.fault_of_limit.result c.fault_reply.result
    (subst (λ (e : CheckError). HasAutomatonCause (spec_tree c.args.spec.now) e) c.in-Err-Large.field-0-is c.in-Err-Large.ensures.cause)
    c.fault_of_limit.ensures c.fault_reply.ensures
