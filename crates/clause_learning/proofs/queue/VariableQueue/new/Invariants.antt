use Rattle.std.proofs.Common.{◌≡◌, ◌<◌, ℕ, true}
use Rattle.clause_learning.specs.Queues.{IsVariableQueue, variable_count, is_queued}
use Rattle.clause_learning.proofs.queue.VariableQueue.new.Given as goal

abbrev pub invariant-loop-variable : goal.invariant-loop-variable
invariant-loop-variable l = record {
  queue : IsVariableQueue l.queue;
  count : variable_count l.queue ≡ l.variables;
  all : (variable : ℕ) → variable < l.variable → is_queued l.queue variable ≡ true;
}
