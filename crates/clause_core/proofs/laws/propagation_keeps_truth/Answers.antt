use Rattle.clause_core.proofs.Semantics.{reached_true}
use Rattle.clause_core.proofs.laws.propagation_keeps_truth.Goals as goal

pub returns : goal.returns
returns c = reached_true
