use Rattle.counterstrategy.proofs.EnvironmentEncoded.{dual_assignment, dual_encoding_is_met}
use Rattle.counterstrategy.proofs.laws.environments_give_assignments.Goals as goal

pub returns : goal.returns
returns c q posed environment number solution =
    (dual_assignment q posed environment number solution, dual_encoding_is_met q posed environment number solution)
