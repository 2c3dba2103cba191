use Rattle.automaton_text.proofs.WrittenRead.{read_back}
use Rattle.automaton_text.proofs.laws.written_automata_are_read.Goals as goal

pub returns : goal.returns
returns c = read_back
