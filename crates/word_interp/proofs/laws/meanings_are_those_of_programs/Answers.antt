use Rattle.tsl_meaning.proofs.Equal.{same_meanings}
use Rattle.word_interp.proofs.laws.meanings_are_those_of_programs.Goals as goal

pub returns : goal.returns
returns c = same_meanings
