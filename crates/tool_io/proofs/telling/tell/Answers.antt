use Rattle.std.proofs.Common.{true, false, refl, sym, ◌∙◌}
use Rattle.tool_io.proofs.Ending.{sent_ends}
use Rattle.tool_io.proofs.telling.tell.Goals as goal

pub returns-in-Ok-clause-ends : goal.returns-in-Ok-clause-ends
returns-in-Ok-clause-ends g c =
    sent_ends _ _ c.in-Ok.reply _ true (sym c.is_answer.ensures ∙ c.if-is_answer.true) c.in-Ok.is c.send.ensures.sent
    (record { bytes = refl; count = refl })

pub returns-in-Ok-2-clause-ends : goal.returns-in-Ok-2-clause-ends
returns-in-Ok-2-clause-ends g c =
    sent_ends _ _ c.in-Ok.reply _ false (sym c.is_answer.ensures ∙ c.if-is_answer.false) c.in-Ok.is c.send-in-Ok-2.ensures.sent
    (record { bytes = refl; count = refl })
