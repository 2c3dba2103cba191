use Rattle.loop_shape.proofs.Untils.{until_comes, comes_until}
use Rattle.loop_shape.proofs.laws.untils_come.Goals as goal

pub returns-clause-comes : goal.returns-clause-comes
returns-clause-comes c = until_comes

pub returns-clause-holds : goal.returns-clause-holds
returns-clause-holds c = comes_until
