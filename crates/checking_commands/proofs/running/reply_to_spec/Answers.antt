use Rattle.checking_commands.specs.Run.{in_spec}
use Rattle.checking_commands.specs.internal.RunView.{run_parts}
use Rattle.command_faults.proofs.RefusalLaws.{cause_stands}
use Rattle.checking_commands.proofs.RunParting.{not_empty, refused_outcome}
use Rattle.checking_commands.proofs.running.reply_to_spec.Goals as goal

pub fault_of-requires-clause-stands : goal.fault_of-requires-clause-stands
fault_of-requires-clause-stands c = cause_stands c.args.parts.now.spec.now c.in-Err.error c.in-Err.ensures.cause

pub returns-in_ok-fault-in-Err : goal.returns-in_ok-fault-in-Err
returns-in_ok-fault-in-Err c =
    refused_outcome (run_parts c.args.parts.now) c.in_ok-fault-in-Err.fault c.fault_reply.result
    (in_spec (not_empty c.args.parts.now.spec.now c.is_empty.result c.is_empty.ensures c.if-is_empty.false) (record {
      error = c.in-Err.error;
      cause = c.in-Err.ensures.cause;
      spells_none = c.in-Err.ensures.refused;
      is_fault = c.in_ok-fault-in-Err.ensures;
    }))
    c.fault_reply.ensures
