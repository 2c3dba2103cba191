use Rattle.tsl_terms.proofs.WindowAtoms.{window_formula_atoms, windowed_atoms, windowed_joins_two}
use Rattle.tsl_terms.proofs.laws.windowed_formulas_have_the_atoms.Goals as goal

pub returns-clause-window : goal.returns-clause-window
returns-clause-window c = window_formula_atoms

pub returns-clause-under : goal.returns-clause-under
returns-clause-under c = windowed_atoms

pub returns-clause-joins : goal.returns-clause-joins
returns-clause-joins c = windowed_joins_two
