use Rattle.std.proofs.Common.{◌≡◌, ◌≤◌, [], length, take, drop, All}
use Rattle.refutation_check.specs.Checking.{numbered_from, steps_refusal}
use Rattle.refutation_check.specs.internal.Accepted.{known_after, AreAccepted}
use Rattle.refutation_check.proofs.checker.check.Given as goal

abbrev pub invariant-loop-place : goal.invariant-loop-place
invariant-loop-place l = record {
  unmarked : l.marks ≡ record { variables = l.cnf.variables; literals = [] };
  accepted : AreAccepted l.cnf.variables (length l.cnf.clauses) (take l.place l.steps);
  count : length l.cnf.clauses ≤ l.largest;
  largest : All (λ step. step.number ≤ l.largest) (take l.place l.steps);
  same : steps_refusal l.cnf.variables l.largest (known_after l.cnf.clauses (take l.place l.steps)) (drop l.place l.steps)
      ≡ steps_refusal l.cnf.variables (length l.cnf.clauses) (numbered_from 1 l.cnf.clauses) l.steps;
}
