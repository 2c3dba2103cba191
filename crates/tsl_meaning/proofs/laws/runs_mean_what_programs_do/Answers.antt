use Rattle.tsl_meaning.proofs.RunsOf.{run_means}
use Rattle.tsl_meaning.proofs.laws.runs_mean_what_programs_do.Goals as goal

pub returns : goal.returns
returns g c = λ meanings program rows run is. run_means meanings program rows run is
