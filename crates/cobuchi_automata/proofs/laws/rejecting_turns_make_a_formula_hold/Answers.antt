use Rattle.cobuchi_automata.proofs.RejectingTurns.{law}
use Rattle.cobuchi_automata.proofs.laws.rejecting_turns_make_a_formula_hold.Goals as goal

pub returns : goal.returns
returns c = law
