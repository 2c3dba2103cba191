use Rattle.tsl_meaning.proofs.Runs.{step_there}
use Rattle.tsl_meaning.proofs.laws.programs_go_on.Goals as goal

pub returns : goal.returns
returns c = step_there
