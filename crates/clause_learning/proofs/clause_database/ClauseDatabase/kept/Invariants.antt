use Rattle.std.proofs.Common.{length, ◌≤◌}
use Rattle.clause_learning.specs.ClauseDatabases.{numbers_of, AreKept}
use Rattle.clause_learning.proofs.clause_database.ClauseDatabase.kept.Given as goal

abbrev pub invariant-loop-place : goal.invariant-loop-place
invariant-loop-place l = record {
  kept : AreKept l.formula l.trail.clauses (numbers_of l.self) l.place l.kept.learnt.items l.kept.database;
  within : l.place ≤ length l.trail.clauses;
}
