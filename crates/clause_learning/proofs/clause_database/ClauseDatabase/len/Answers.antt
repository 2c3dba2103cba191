use Rattle.std.proofs.Common.{arith}
use Rattle.clause_learning.proofs.DatabaseNumbers.{numbers_long}
use Rattle.clause_learning.proofs.clause_database.ClauseDatabase.len.Goals as goal

pub overflow_add-result : goal.overflow_add-result
overflow_add-result c = omega (arith, c.requires, numbers_long c.args.self.now, c.len.ensures)

pub returns : goal.returns
returns c = omega (arith, c.requires, numbers_long c.args.self.now, c.len.ensures)
