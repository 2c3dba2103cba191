use Rattle.bounded_encoding.proofs.Numbers.{variable_at, one_index, variables_counted}
use Rattle.bounded_encoding.proofs.laws.variables_have_one_number.Goals as goal

pub returns-clause-place : goal.returns-clause-place
returns-clause-place c = variable_at

pub returns-clause-one : goal.returns-clause-one
returns-clause-one c = one_index

pub returns-clause-count : goal.returns-clause-count
returns-clause-count c = variables_counted
