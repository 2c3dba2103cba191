use Rattle.std.proofs.Common.{◌≡◌, ◌++◌, drop}
use Rattle.solve_tool.specs.Outcome.{proper_clauses}
use Rattle.solve_tool.proofs.solver.proper_clauses.Given as goal

-- those kept so far, and those of the clauses that are left
abbrev pub invariant-loop-place : goal.invariant-loop-place
invariant-loop-place l = l.proper ++ proper_clauses (drop l.place l.clauses) ≡ proper_clauses l.clauses
