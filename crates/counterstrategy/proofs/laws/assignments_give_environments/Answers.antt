use Rattle.counterstrategy.proofs.EnvironmentDecoded.{is_environment_solution}
use Rattle.counterstrategy.proofs.laws.assignments_give_environments.Goals as goal

pub returns : goal.returns
returns c = is_environment_solution
