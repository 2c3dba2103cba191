use Rattle.checking_commands.specs.internal.CheckView.{check_parts}
use Rattle.checking_commands.proofs.CheckStages.{spec_refused_known}
use Rattle.command_faults.proofs.RefusalLaws.{cause_stands}
use Rattle.checking_commands.proofs.checking.texts_judged.Goals as goal

pub fault_of-requires-clause-stands : goal.fault_of-requires-clause-stands
fault_of-requires-clause-stands c = cause_stands c.args.texts.now.spec.now c.in-Err.error c.in-Err.ensures.cause

pub returns-in_ok-reply-in-Err : goal.returns-in_ok-reply-in-Err
returns-in_ok-reply-in-Err c =
    spec_refused_known c.args.bound (check_parts c.args.texts.now) c.in_ok-fault-in-Err.fault c.in_ok-reply-in-Err.reply
    (record {
      error = c.in-Err.error;
      cause = c.in-Err.ensures.cause;
      spells_none = c.in-Err.ensures.refused;
      is_fault = c.in_ok-fault-in-Err.ensures;
    })
    c.in_ok-reply-in-Err.ensures
