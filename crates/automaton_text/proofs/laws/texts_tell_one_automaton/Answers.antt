use Rattle.automaton_text.proofs.WrittenRead.{one_automaton, never_wrong}
use Rattle.automaton_text.proofs.laws.texts_tell_one_automaton.Goals as goal

pub returns-clause-one : goal.returns-clause-one
returns-clause-one c = one_automaton

pub returns-clause-right : goal.returns-clause-right
returns-clause-right c = never_wrong
