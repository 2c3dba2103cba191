use Rattle.exchange_commands.proofs.ExchangeStages.{parts_told}
use Rattle.exchange_commands.proofs.loop_verdict.accepts.Goals as goal

pub returns-in-Some : goal.returns-in-Some
returns-in-Some c =
    parts_told c.args.bytes.now c.in-Some.automaton.now c.in-Some.rest.now c.after_line.result.now c.reply_to_parts.result
    c.in-Some.ensures.found c.after_line.ensures c.reply_to_parts.ensures
