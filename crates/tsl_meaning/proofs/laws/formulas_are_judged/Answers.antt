use Rattle.tsl_terms.specs.Atoms.{atoms}
use Rattle.tsl_meaning.specs.Interpretation.{meanings_in}
use Rattle.tsl_meaning.proofs.Runs.{atoms_decided}
use Rattle.tsl_meaning.proofs.RunsOf.{decided_judged}
use Rattle.tsl_meaning.proofs.laws.formulas_are_judged.Goals as goal

pub returns : goal.returns
returns c = λ names program interpretation rows formula run over is loop speaks run_is.
    decided_judged (meanings_in names program interpretation) program rows run run_is (atoms formula)
    (atoms_decided names program interpretation rows over is loop formula speaks)
