use Rattle.word_interp.proofs.OneReading.{one_words}
use Rattle.word_interp.proofs.laws.one_reading.Goals as goal

pub returns : goal.returns
returns c = one_words
