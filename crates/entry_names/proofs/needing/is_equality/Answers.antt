use Rattle.entry_names.proofs.NeededNames.{equality_known, no_equality}
use Rattle.entry_names.proofs.needing.is_equality.Goals as goal

pub returns-in-Some : goal.returns-in-Some
returns-in-Some c = equality_known c.args.names.now c.in-Some.number c.args.id (rw c.in-Some.is at c.requires)

pub returns-in-None : goal.returns-in-None
returns-in-None c = no_equality c.args.names.now c.args.id (rw c.in-None.is at c.requires)
