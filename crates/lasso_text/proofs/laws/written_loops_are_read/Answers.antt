use Rattle.lasso_text.proofs.LoopLaws.{never_wrong, one_loop}
use Rattle.lasso_text.proofs.laws.written_loops_are_read.Goals as goal

pub returns-clause-read : goal.returns-clause-read
returns-clause-read c = never_wrong

pub returns-clause-one : goal.returns-clause-one
returns-clause-one c = one_loop
