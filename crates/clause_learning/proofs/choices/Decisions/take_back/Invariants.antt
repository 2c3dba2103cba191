use Rattle.std.proofs.Common.{◌≤◌, length}
use Rattle.clause_learning.specs.Decisions.{AreDecisions}
use Rattle.clause_learning.proofs.Deciding.{AreGiven}
use Rattle.clause_learning.proofs.choices.Decisions.take_back.Given as goal

abbrev pub invariant-loop-place : goal.invariant-loop-place
invariant-loop-place l = record {
  decisions : AreDecisions l.trail.variables l.trail.entries l.self;
  given : AreGiven l.trail.entries l.place l.self.queue;
  within : l.place ≤ length l.trail.entries;
}

abbrev pub decreases-loop-place : goal.decreases-loop-place
decreases-loop-place l = l.place
