use Rattle.std.proofs.Common.{◌≡◌, ◌∙◌, ℕ, List, [], None, Some, refl, sym, ap, subst}
use Rattle.std.specs.Prelude.{Option, Err}
use Rattle.tsl_io.proofs.Effects.{some_bytes, more_bytes}
use Rattle.tsl_report.specs.declared.fault.Fault.TheVariants.{Read, Large as PastLimit}
use Rattle.tsl_report.specs.declared.fault.LimitName.TheVariants.{Text}
use Rattle.tool_io.proofs.Replying.{one_reply, reply_to_bytes}
use Rattle.command_faults.specs.Replies.{fault_reply}
use Rattle.tsl_tool.specs.Outcome.{TaskOutcome, source_failed, too_long}
use Rattle.tsl_tool.specs.Tasks.{AreFewBytes}
use Rattle.tsl_tool.proofs.EndLaws.{task_replies, on_any_bytes}
use Rattle.tsl_tool.proofs.top.reply_to_task.Goals as goal

pub returns-in_default-clause-replies : goal.returns-in_default-clause-replies
returns-in_default-clause-replies g c =
    let none = sym c.most_bytes.ensures ∙ c.in_default.is in
    let bytes = some_bytes (g.S.Source.left c.args.source.now) in
    reply_to_bytes _ _ _ bytes refl
    (λ reply outcome. task_replies _ c.args.task bytes.0 reply c.requires (subst (λ (m : Option ℕ). AreFewBytes m bytes.0) (sym none) tt)
    (on_any_bytes c.args.task [] bytes.0 reply none outcome))
    c.reply_to_bytes.ensures

pub returns-in-Ok-clause-replies : goal.returns-in-Ok-clause-replies
returns-in-Ok-clause-replies g c =
    let text = c.in-Ok.bytes.items in
    let some = sym c.most_bytes.ensures ∙ c.in-Some.is in
    reply_to_bytes _ _ _ (text, λ bytes is. sym (c.in-Ok.ensures.text bytes is)) c.in-Ok.ensures.ok_count
    (λ reply outcome. task_replies _ c.args.task text reply c.requires
    (subst (λ (m : Option ℕ). AreFewBytes m text) (sym some) c.in-Ok.ensures.within)
    (subst (λ (b : List ℕ). TaskOutcome c.args.task b reply) c.deref.ensures.value outcome))
    c.reply_to_bytes-in-Ok.ensures

pub returns-in-Err-TooLong-clause-replies : goal.returns-in-Err-TooLong-clause-replies
returns-in-Err-TooLong-clause-replies g c =
    let is = c.in-Err-TooLong.is ∙ ap Err c.in-Err-TooLong.field-0-is in
    let bytes = more_bytes c.in-Some.most_bytes _ _ (c.read_all.ensures.too_long_taken is) in
    one_reply _ _ _ (fault_reply (PastLimit Text c.in-Some.most_bytes)) (bytes.0, bytes.1)
    (too_long c.args.task c.in-Some.most_bytes c.requires (sym c.most_bytes.ensures ∙ c.in-Some.is) bytes.2 refl)
    (c.read_all.ensures.too_long_count is) c.fault_reply.ensures

pub returns-in-Err-Fault-clause-replies : goal.returns-in-Err-Fault-clause-replies
returns-in-Err-Fault-clause-replies g c =
    one_reply _ _ _ (fault_reply Read) (some_bytes _)
    (source_failed c.args.task c.requires
    (λ none. let never : Some c.in-Some.most_bytes ≡ None = sym (sym c.most_bytes.ensures ∙ c.in-Some.is) ∙ none in cc) refl)
    (c.read_all.ensures.fault (c.in-Err-Fault.is ∙ ap Err c.in-Err-Fault.field-0-is)) c.fault_reply-in-Err-Fault.ensures
