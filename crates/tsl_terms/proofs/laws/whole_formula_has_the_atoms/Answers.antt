use Rattle.tsl_terms.specs.WellFormed.{atom_fits}
use Rattle.tsl_terms.proofs.WholeAtoms.{whole_atoms, whole_is_made_of}
use Rattle.tsl_terms.proofs.laws.whole_formula_has_the_atoms.Goals as goal

pub returns-clause-atoms : goal.returns-clause-atoms
returns-clause-atoms c = whole_atoms

pub returns-clause-fits : goal.returns-clause-fits
returns-clause-fits c = λ spec fit. whole_is_made_of (atom_fits spec.names) spec fit
