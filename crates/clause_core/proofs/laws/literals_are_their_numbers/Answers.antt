use Rattle.clause_core.proofs.Sets.{signed_number_of-injective, negation-negation}
use Rattle.clause_core.proofs.laws.literals_are_their_numbers.Goals as goal

pub returns-clause-number : goal.returns-clause-number
returns-clause-number c = signed_number_of-injective

pub returns-clause-negation : goal.returns-clause-negation
returns-clause-negation c = negation-negation
