use Rattle.tsl_reader.proofs.SpelledFits.{spelled_fits}
use Rattle.tsl_reader.proofs.laws.spelled_specifications_fit.Goals as goal

pub returns : goal.returns
returns c = spelled_fits
