use Rattle.clause_core.proofs.Semantics.{traced_follows}
use Rattle.clause_core.proofs.laws.traces_show_consequences.Goals as goal

pub returns : goal.returns
returns c = traced_follows
