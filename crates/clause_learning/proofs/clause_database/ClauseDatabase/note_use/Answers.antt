use Rattle.std.proofs.Common.{◌-◌, arith}
use Rattle.clause_learning.proofs.DatabaseNumbers.{numbers_long, numbers_used}
use Rattle.clause_learning.proofs.clause_database.ClauseDatabase.note_use.Goals as goal

pub index_mut-learnt-requires : goal.index_mut-learnt-requires
index_mut-learnt-requires c =
    let self = c.args.self.now in
    omega (arith, c.requires, numbers_long self, c.if-place-self.false, self.learnt.ok.0)

pub returns : goal.returns
returns c = numbers_used c.args.self.now (c.args.place - c.args.self.now.formula) _ c.index_mut-learnt.result.now
    c.index_mut-learnt.ensures.value
