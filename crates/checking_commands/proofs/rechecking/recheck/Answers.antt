use Rattle.checking_commands.proofs.RecheckLaws.{parts_outcome}
use Rattle.checking_commands.proofs.rechecking.recheck.Goals as goal

pub returns-in-Some : goal.returns-in-Some
returns-in-Some c =
    parts_outcome c.args.bytes.now c.after_head.result.now c.in-Some.at c.reply_to_parts.result
    c.in-Some.ensures.found c.in-Some.ensures.first c.after_head.ensures c.reply_to_parts.ensures
