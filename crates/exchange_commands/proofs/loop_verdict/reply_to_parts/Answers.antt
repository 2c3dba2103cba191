use Rattle.exchange_commands.proofs.ExchangeStages.{automaton_refused_told}
use Rattle.exchange_commands.proofs.loop_verdict.reply_to_parts.Goals as goal

pub returns-in_ok-fault-in-Err : goal.returns-in_ok-fault-in-Err
returns-in_ok-fault-in-Err c =
    automaton_refused_told (record { automaton = c.args.automaton.now; letters = c.args.letters.now }) c.in-Err.error
    c.in_ok-fault-in-Err.fault c.fault_reply.result (c.read_hoa.ensures.refused c.in-Err.error c.in-Err.is) c.in_ok-fault-in-Err.ensures
    c.fault_reply.ensures
