use Rattle.loop_shape.proofs.Untils.{until_unrolls}
use Rattle.loop_shape.proofs.Words.{finally_unrolls, globally_unrolls, release_unrolls, weak_until_unrolls}
use Rattle.loop_shape.proofs.laws.words_unroll.Goals as goal

pub returns-clause-finally : goal.returns-clause-finally
returns-clause-finally c = λ shape a i p. finally_unrolls shape i p a

pub returns-clause-globally : goal.returns-clause-globally
returns-clause-globally c = λ shape a i p. globally_unrolls shape i p a

pub returns-clause-until : goal.returns-clause-until
returns-clause-until c = until_unrolls

pub returns-clause-release : goal.returns-clause-release
returns-clause-release c = λ shape a b i p. release_unrolls shape i p a b

pub returns-clause-weak_until : goal.returns-clause-weak_until
returns-clause-weak_until c = λ shape a b i p. weak_until_unrolls shape i p a b
