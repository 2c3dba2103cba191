use Rattle.obligations.proofs.StepLaws.{some_true, some_good}
use Rattle.obligations.proofs.laws.sets_hold_by_a_choice.Goals as goal

pub returns-clause-some_true : goal.returns-clause-some_true
returns-clause-some_true c = some_true

pub returns-clause-some_good : goal.returns-clause-some_good
returns-clause-some_good c = some_good
