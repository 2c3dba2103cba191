use Rattle.loop_acceptance.proofs.AcceptedLoops.{accepts_where_it_holds}
use Rattle.loop_acceptance.proofs.laws.automata_accept_where_their_formulas_hold.Goals as goal

pub returns : goal.returns
returns c = accepts_where_it_holds
