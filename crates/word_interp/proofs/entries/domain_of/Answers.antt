use Rattle.std.proofs.Common.{arith}
use Rattle.word_interp.proofs.Tabled.{least_words}
use Rattle.word_interp.proofs.entries.domain_of.Goals as goal

pub returns-clause-some : goal.returns-clause-some
returns-clause-some c = grind (arith, least_words c.args.bits c.requires.some)
