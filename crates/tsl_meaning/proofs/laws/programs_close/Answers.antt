use Rattle.tsl_meaning.proofs.Closing.{closes}
use Rattle.tsl_meaning.proofs.laws.programs_close.Goals as goal

pub returns : goal.returns
returns c = closes
