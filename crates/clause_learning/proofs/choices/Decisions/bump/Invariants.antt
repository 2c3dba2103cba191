use Rattle.std.proofs.Common.{◌≡◌, ℕ, length}
use Rattle.clause_learning.specs.Queues.{IsVariableQueue, variable_count, is_queued}
use Rattle.clause_learning.proofs.choices.Decisions.bump.Given as goal

abbrev pub invariant-loop-variable : goal.invariant-loop-variable
invariant-loop-variable l = record {
  queue : IsVariableQueue l.self.queue;
  count : variable_count l.self.queue ≡ variable_count l.fn.self.queue;
  phases : length l.self.phases.items ≡ length l.fn.self.phases.items;
  same : (variable : ℕ) → is_queued l.self.queue variable ≡ is_queued l.fn.self.queue variable;
}
