use Rattle.std.proofs.Common.{◌≡◌, All, length}
use Rattle.clause_core.specs.Clauses.{IsOver}
use Rattle.logic_values.proofs.clauses.formula.Given as goal

abbrev pub invariant-loop-clause : goal.invariant-loop-clause
invariant-loop-clause l = record {
  over : All (IsOver l.variables) l.list;
  long : length l.list ≡ l.clause-index;
}
