use Rattle.clause_core.proofs.Semantics.{reverse_follows}
use Rattle.clause_core.proofs.laws.reverse_propagation_shows_consequence.Goals as goal

pub returns : goal.returns
returns c = reverse_follows
