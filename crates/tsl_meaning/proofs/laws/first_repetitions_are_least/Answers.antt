use Rattle.tsl_meaning.proofs.FirstRepetition.{first_is_least, one_first}
use Rattle.tsl_meaning.proofs.laws.first_repetitions_are_least.Goals as goal

pub returns-clause-least : goal.returns-clause-least
returns-clause-least g c = λ meanings program rows. first_is_least meanings program rows

pub returns-clause-one : goal.returns-clause-one
returns-clause-one g c = λ meanings program rows. one_first meanings program rows
