use Rattle.tsl_terms.specs.SpecView.{spec_tree}
use Rattle.program_tree.specs.ProgramView.{program_tree}
use Rattle.exchange_commands.specs.Circuit.{not_accepted}
use Rattle.exchange_commands.proofs.ExchangeStages.{circuit_told}
use Rattle.exchange_commands.proofs.program_circuit.circuit.Goals as goal

pub returns-in-Accepted : goal.returns-in-Accepted
returns-in-Accepted c =
    circuit_told c.args.bound c.args.bytes.now (spec_tree c.in-Accepted.spec) (program_tree c.in-Accepted.program)
    c.circuit_reply.result (rw c.in-Accepted.is at c.in_ok-judged.ensures) c.circuit_reply.ensures

pub returns-in-Replied : goal.returns-in-Replied
returns-in-Replied c = let known = rw c.in-Replied.is at c.in_ok-judged.ensures in not_accepted known.0 known.1
