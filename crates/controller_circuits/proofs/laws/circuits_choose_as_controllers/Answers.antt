use Rattle.controller_circuits.proofs.RunLemmas.{runs_as}
use Rattle.controller_circuits.proofs.laws.circuits_choose_as_controllers.Goals as goal

pub returns : goal.returns
returns c = runs_as
