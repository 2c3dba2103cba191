use Rattle.word_interp.proofs.Facts.{interprets}
use Rattle.word_interp.proofs.laws.what_is_spelled_has_a_meaning.Goals as goal

pub returns : goal.returns
returns c = λ text names cells interpretation are spelled. interprets names cells spelled.given interpretation spelled.gives
