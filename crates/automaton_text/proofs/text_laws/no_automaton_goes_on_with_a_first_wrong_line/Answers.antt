use Rattle.automaton_text.proofs.FirstLines.{first_of_automata}
use Rattle.automaton_text.proofs.text_laws.no_automaton_goes_on_with_a_first_wrong_line.Goals as goal

pub returns : goal.returns
returns c = first_of_automata
