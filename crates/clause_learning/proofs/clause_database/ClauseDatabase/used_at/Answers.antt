use Rattle.std.proofs.Common.{arith}
use Rattle.clause_learning.proofs.DatabaseNumbers.{numbers_long}
use Rattle.clause_learning.proofs.clause_database.ClauseDatabase.used_at.Goals as goal

pub index-requires : goal.index-requires
index-requires c =
    let self = c.args.self.now in
    omega (arith, c.requires, numbers_long self, c.if-place-self.false, self.learnt.ok.0)
