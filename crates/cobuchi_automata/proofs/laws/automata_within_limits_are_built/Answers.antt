use Rattle.cobuchi_automata.proofs.AutomatonLemmas.{has_choices, passes_states, passes_edges}
use Rattle.cobuchi_automata.proofs.laws.automata_within_limits_are_built.Goals as goal

pub returns-clause-choices : goal.returns-clause-choices
returns-clause-choices c = has_choices

pub returns-clause-states : goal.returns-clause-states
returns-clause-states c = passes_states

pub returns-clause-edges : goal.returns-clause-edges
returns-clause-edges c = passes_edges
