use Rattle.std.proofs.Common.{◌≡◌, ◌<◌, ◌≤◌, ℕ}
use Rattle.clause_learning.specs.Queues.{IsQueue, variable_count, is_queued, activity_of, scaled}
use Rattle.clause_learning.proofs.queue.VariableQueue.scale.Given as goal

abbrev pub invariant-loop-variable : goal.invariant-loop-variable
invariant-loop-variable l = record {
  queue : IsQueue l.self;
  count : variable_count l.self ≡ variable_count l.fn.self;
  same : (other : ℕ) → is_queued l.self other ≡ is_queued l.fn.self other;
  done : (other : ℕ) → other < l.variable → activity_of l.self other ≡ scaled (activity_of l.fn.self other);
  left : (other : ℕ) → l.variable ≤ other → activity_of l.self other ≡ activity_of l.fn.self other;
  increment : l.self.increment ≡ l.fn.self.increment;
}
