use Rattle.checking_commands.specs.internal.RunView.{run_parts}
use Rattle.checking_commands.proofs.RunParting.{parts_outcome, missing_outcome}
use Rattle.checking_commands.proofs.running.run.Goals as goal

pub returns-in-Ok : goal.returns-in-Ok
returns-in-Ok c =
    parts_outcome c.args.bytes.now (run_parts c.in-Ok.parts) c.reply_to_spec.result c.in-Ok.ensures.parts c.reply_to_spec.ensures

pub returns-in-Err : goal.returns-in-Err
returns-in-Err c =
    missing_outcome c.args.bytes.now c.in-Err.head c.fault_reply.result c.in-Err.ensures.lacks c.fault_reply.ensures
