use Rattle.std.proofs.Common.{map, Global, refl}
use Rattle.std.specs.Prelude.{string_bytes}
use Rattle.tsl_io.proofs.Effects.{some_bytes}
use Rattle.tsl_report.specs.declared.fault.Fault.TheVariants.{Usage as WrongWords}
use Rattle.tool_io.proofs.Replying.{one_reply}
use Rattle.command_faults.specs.Replies.{fault_reply}
use Rattle.tsl_tool.specs.Outcome.{usage}
use Rattle.tsl_tool.proofs.TaskFacts.{task_reads_nothing}
use Rattle.tsl_tool.proofs.top.reply_to.Goals as goal

pub reply_to_task-requires : goal.reply_to_task-requires
reply_to_task-requires g c = c.in-Ok.ensures.asks

pub returns-in-Ok-clause-unread : goal.returns-in-Ok-clause-unread
returns-in-Ok-clause-unread g c = λ nothing.
    c.reply_to_task.ensures.unread (task_reads_nothing (map (string_bytes {Z = Global}) c.args.words.now) c.in-Ok.task c.in-Ok.ensures.asks nothing)

pub returns-in-Err-Usage-clause-replies : goal.returns-in-Err-Usage-clause-replies
returns-in-Err-Usage-clause-replies g c =
    one_reply _ _ _ (fault_reply WrongWords) (some_bytes _) (usage (c.in-Err-Usage.ensures.refused c.in-Err-Usage.field-0-is) refl) refl
    c.fault_reply.ensures
