use Rattle.program_check.proofs.OneVerdict.{at_most_one}
use Rattle.program_check.proofs.laws.one_verdict.Goals as goal

pub returns : goal.returns
returns c = at_most_one
