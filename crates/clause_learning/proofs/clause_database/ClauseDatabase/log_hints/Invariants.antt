use Rattle.std.proofs.Common.{◌≡◌, take}
use Rattle.clause_learning.specs.ClauseDatabases.{numbers_of, log_hints}
use Rattle.clause_learning.proofs.clause_database.ClauseDatabase.log_hints.Given as goal

abbrev pub invariant-loop-hint : goal.invariant-loop-hint
invariant-loop-hint l = record {
  named : l.named.items ≡ log_hints (numbers_of l.fn.self) (take l.hint-index l.hints);
  numbers : numbers_of l.self ≡ numbers_of l.fn.self;
}
