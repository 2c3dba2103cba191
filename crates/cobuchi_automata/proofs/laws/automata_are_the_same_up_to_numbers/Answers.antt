use Rattle.cobuchi_automata.proofs.AutomatonLemmas.{renumbered}
use Rattle.cobuchi_automata.proofs.laws.automata_are_the_same_up_to_numbers.Goals as goal

pub returns : goal.returns
returns c = renumbered
