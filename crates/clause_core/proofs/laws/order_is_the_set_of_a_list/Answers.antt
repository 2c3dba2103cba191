use Rattle.clause_core.proofs.Sets.{IsIncreasing-in_order, has-in_order, one_increasing}
use Rattle.clause_core.proofs.laws.order_is_the_set_of_a_list.Goals as goal

pub returns-clause-rises : goal.returns-clause-rises
returns-clause-rises c = IsIncreasing-in_order

pub returns-clause-members : goal.returns-clause-members
returns-clause-members c = has-in_order

pub returns-clause-one : goal.returns-clause-one
returns-clause-one c = one_increasing
