use Rattle.automaton_text.proofs.FirstLines.{lines_of_automaton}
use Rattle.automaton_text.proofs.WrittenRead.{is_text}
use Rattle.automaton_text.proofs.text_laws.steps_take_the_texts_of_automata.Goals as goal

pub returns-clause-each : goal.returns-clause-each
returns-clause-each c = is_text

pub returns-clause-only : goal.returns-clause-only
returns-clause-only c = lines_of_automaton
