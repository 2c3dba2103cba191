use Rattle.std.proofs.Common.{◌≡◌}
use Rattle.clause_learning.specs.Queues.{is_queued}
use Rattle.clause_learning.specs.Decisions.{AreDecisions}
use Rattle.clause_learning.proofs.Counts.{count_below}
use Rattle.clause_learning.proofs.choices.Decisions.next_variable.Given as goal

abbrev pub invariant-loop-index : goal.invariant-loop-index
invariant-loop-index l = record {
  decisions : AreDecisions l.trail.variables l.trail.entries l.self;
  activities : l.self.queue.activities.items ≡ l.fn.self.queue.activities.items;
  phases : l.self.phases.items ≡ l.fn.self.phases.items;
}

abbrev pub decreases-loop-index : goal.decreases-loop-index
decreases-loop-index l = count_below (is_queued l.self.queue) l.trail.variables
