use Rattle.tsl_terms.specs.SpecView.{spec_tree}
use Rattle.command_faults.proofs.RefusalLaws.{cause_stands}
use Rattle.exchange_commands.proofs.ExchangeStages.{spec_told, spec_refused}
use Rattle.exchange_commands.proofs.negated_automaton.automaton.Goals as goal

pub returns-in-Ok : goal.returns-in-Ok
returns-in-Ok c =
    spec_told c.args.bytes.now (spec_tree c.in-Ok.spec) c.reply_to_spec.result c.in-Ok.ensures.ok c.reply_to_spec.ensures

pub fault_of-requires-clause-stands : goal.fault_of-requires-clause-stands
fault_of-requires-clause-stands c = cause_stands c.args.bytes.now c.in-Err.error c.in-Err.ensures.cause

pub returns-in_ok-fault-in-Err : goal.returns-in_ok-fault-in-Err
returns-in_ok-fault-in-Err c =
    spec_refused c.args.bytes.now c.in_ok-fault-in-Err.fault c.fault_reply.result
    (record {
      error = c.in-Err.error;
      cause = c.in-Err.ensures.cause;
      spells_none = c.in-Err.ensures.refused;
      is_fault = c.in_ok-fault-in-Err.ensures;
    })
    c.fault_reply.ensures
