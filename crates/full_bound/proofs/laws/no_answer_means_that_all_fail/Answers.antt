use Rattle.full_bound.proofs.AllFailing.{all_fail}
use Rattle.full_bound.proofs.laws.no_answer_means_that_all_fail.Goals as goal

pub returns : goal.returns
returns c = all_fail
