use Rattle.tsl_meaning.proofs.FirstRepetition.{limit_is_enough}
use Rattle.tsl_meaning.proofs.laws.large_limits_are_enough.Goals as goal

pub returns : goal.returns
returns c = limit_is_enough
