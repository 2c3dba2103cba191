use Rattle.counterstrategy.proofs.DualNumbers.{variable_is, one_variable, index_below}
use Rattle.counterstrategy.proofs.laws.dual_variables_have_one_number.Goals as goal

pub returns-clause-place : goal.returns-clause-place
returns-clause-place c = variable_is

pub returns-clause-one : goal.returns-clause-one
returns-clause-one c = one_variable

pub returns-clause-below : goal.returns-clause-below
returns-clause-below c = index_below
