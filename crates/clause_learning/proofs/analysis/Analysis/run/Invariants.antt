use Rattle.std.proofs.Common.{◌≤◌, length}
use Rattle.clause_learning.specs.ConflictAnalysis.{IsAnalysis}
use Rattle.clause_learning.proofs.analysis.Analysis.run.Given as goal

abbrev pub invariant-loop-self : goal.invariant-loop-self
invariant-loop-self l = record {
  analysis : IsAnalysis l.trail l.place l.self;
  within : l.place ≤ length l.trail.entries;
}

abbrev pub decreases-loop-self : goal.decreases-loop-self
decreases-loop-self l = l.place
