use Rattle.tsl_meaning.proofs.Runs.{atoms_decided}
use Rattle.tsl_meaning.proofs.laws.atoms_are_decided.Goals as goal

pub returns : goal.returns
returns c = λ names program interpretation rows formula over is loop speaks. atoms_decided names program interpretation rows over is loop
    formula speaks
