use Rattle.refinement_loop.proofs.OneOutcome.{no_outcome, told_first}
use Rattle.refinement_loop.proofs.laws.limits_leave_no_outcome.Goals as goal

pub returns-clause-no_outcome : goal.returns-clause-no_outcome
returns-clause-no_outcome c = λ spec search limit outcome large is. no_outcome spec search limit large outcome is

pub returns-clause-told : goal.returns-clause-told
returns-clause-told c = λ spec search limit other rounds large after. told_first spec search limit large other rounds after
