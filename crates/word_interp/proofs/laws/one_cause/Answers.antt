use Rattle.word_interp.proofs.OneCause.{one_words_cause, words_refused}
use Rattle.word_interp.proofs.laws.one_cause.Goals as goal

pub returns-clause-words : goal.returns-clause-words
returns-clause-words c = one_words_cause

pub returns-clause-no_words : goal.returns-clause-no_words
returns-clause-no_words c = words_refused
