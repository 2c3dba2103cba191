use Rattle.loop_shape.proofs.Fixpoints.{until_least, release_greatest}
use Rattle.loop_shape.proofs.laws.words_are_fixpoints.Goals as goal

pub returns-clause-until : goal.returns-clause-until
returns-clause-until c = until_least

pub returns-clause-release : goal.returns-clause-release
returns-clause-release c = release_greatest
