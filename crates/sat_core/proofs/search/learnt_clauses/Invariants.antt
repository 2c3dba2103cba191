use Rattle.std.proofs.Common.{◌≡◌, ◌++◌}
use Rattle.clause_learning.specs.LearntClauses.{clauses_of}
use Rattle.sat_core.proofs.search.learnt_clauses.Given as goal

abbrev pub invariant-loop-step : goal.invariant-loop-step
invariant-loop-step l = l.clauses.items ++ clauses_of l.step-iterator.rest.items ≡ clauses_of l.fn.log.steps
