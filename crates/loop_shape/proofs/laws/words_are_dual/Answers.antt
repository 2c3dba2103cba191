use Rattle.loop_shape.proofs.Words.{not_until, not_release, not_finally, finally_is_until, globally_is_release}
use Rattle.loop_shape.proofs.laws.words_are_dual.Goals as goal

pub returns-clause-until : goal.returns-clause-until
returns-clause-until c = not_until

pub returns-clause-release : goal.returns-clause-release
returns-clause-release c = not_release

pub returns-clause-finally : goal.returns-clause-finally
returns-clause-finally c = not_finally

pub returns-clause-finally_is_until : goal.returns-clause-finally_is_until
returns-clause-finally_is_until c = finally_is_until

pub returns-clause-globally_is_release : goal.returns-clause-globally_is_release
returns-clause-globally_is_release c = globally_is_release
