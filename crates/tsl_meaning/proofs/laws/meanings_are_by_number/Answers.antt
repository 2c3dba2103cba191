use Rattle.tsl_meaning.proofs.Equal.{same_meanings}
use Rattle.tsl_meaning.proofs.laws.meanings_are_by_number.Goals as goal

pub returns : goal.returns
returns c = same_meanings
