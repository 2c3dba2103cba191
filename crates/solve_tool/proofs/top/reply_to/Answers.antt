use Rattle.std.proofs.Common.{◌≤◌, [], length, sym, ap, ◌∙◌, refl, arith}
use Rattle.std.specs.Prelude.{Err}
use Rattle.tsl_io.proofs.Effects.{some_bytes, more_bytes}
use Rattle.tsl_io.proofs.Handed.{whole_kept}
use Rattle.tool_io.proofs.Replying.{one_reply, reply_to_bytes}
use Rattle.cnf_reader.specs.CnfText.{cnf_answer}
use Rattle.solve_tool.specs.declared.refusal.Refusal.TheVariants.{OtherWords, Unread, TooManyBytes}
use Rattle.solve_tool.specs.declared.request.TheConstants.{MOST_BYTES}
use Rattle.solve_tool.specs.Outcome.{usage, source_failed, too_long, on_bytes}
use Rattle.solve_tool.specs.Replies.{refusal_reply}
use Rattle.solve_tool.proofs.Reacting.{answer_says}
use Rattle.solve_tool.proofs.top.reply_to.Goals as goal

pub returns-in_default-clause-replies : goal.returns-in_default-clause-replies
returns-in_default-clause-replies g c =
    one_reply _ _ _ (refusal_reply OtherWords) (some_bytes _) (usage (sym c.request_of.ensures.found ∙ c.in_default.is) refl) refl
    c.reply.ensures

pub returns-in-Ok-clause-replies : goal.returns-in-Ok-clause-replies
returns-in-Ok-clause-replies g c =
    let taken = c.in-Ok.ensures.ok in
    let text = taken.2.0 in
    let few : length text ≤ MOST_BYTES = omega (arith, taken.1, taken.2.1) in
    reply_to_bytes _ _ _
    (text, λ bytes is. sym (whole_kept text [] text bytes _ _ refl refl taken.2.2 (c.in-Ok.ensures.none_left bytes is) is))
    (c.in-Ok.ensures.no_fault (λ is. cc))
    (λ reply replied. let on = replied text (taken.2.3 [] c.in_ok-reader.ensures) in
    (on_bytes c.in-Some.request (sym c.request_of.ensures.found ∙ c.in-Some.is) few on, (answer_says _ (cnf_answer text) reply on).comes))
    c.reply_to_read.ensures

pub reply_to_read-requires-clause-read : goal.reply_to_read-requires-clause-read
reply_to_read-requires-clause-read g c =
    let taken = c.in-Ok.ensures.ok in (taken.2.0, taken.2.3 [] c.in_ok-reader.ensures)

pub returns-in-Err-TooLong-clause-replies : goal.returns-in-Err-TooLong-clause-replies
returns-in-Err-TooLong-clause-replies g c =
    let is = c.in-Err-TooLong.is ∙ ap Err c.in-Err-TooLong.field-0-is in
    let bytes = more_bytes MOST_BYTES _ _ (c.read_into.ensures.too_long is) in
    one_reply _ _ _ (refusal_reply (TooManyBytes MOST_BYTES)) (bytes.0, bytes.1)
    (too_long c.in-Some.request (sym c.request_of.ensures.found ∙ c.in-Some.is) bytes.2 refl)
    (c.read_into.ensures.no_fault (λ fault. let e = sym is ∙ fault in cc)) c.reply-in-Err-TooLong.ensures

pub returns-in-Err-Fault-clause-replies : goal.returns-in-Err-Fault-clause-replies
returns-in-Err-Fault-clause-replies g c =
    one_reply _ _ _ (refusal_reply Unread) (some_bytes _)
    (source_failed c.in-Some.request (sym c.request_of.ensures.found ∙ c.in-Some.is) refl)
    (c.read_into.ensures.fault (c.in-Err-Fault.is ∙ ap Err c.in-Err-Fault.field-0-is)) c.reply-in-Err-Fault.ensures
