use Rattle.cobuchi_automata.proofs.LawLemmas.{law}
use Rattle.cobuchi_automata.proofs.laws.a_formula_that_holds_has_rejecting_paths.Goals as goal

pub returns : goal.returns
returns c f states edges automaton loop letters goes_on at_start k = law f states edges automaton loop letters goes_on at_start k
