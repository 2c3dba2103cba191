use Rattle.annotation_check.proofs.PathBounds.{few, fails}
use Rattle.annotation_check.proofs.laws.annotations_bound_paths.Goals as goal

pub returns-clause-paths : goal.returns-clause-paths
returns-clause-paths c = few

pub returns-clause-formulas : goal.returns-clause-formulas
returns-clause-formulas c f states edges automaton moves bound number annotation loop state runs letters goes_on =
    fails edges moves bound number annotation loop state runs f states automaton letters goes_on
