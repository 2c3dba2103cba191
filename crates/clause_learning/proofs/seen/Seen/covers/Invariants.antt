use Rattle.std.proofs.Common.{◌≡◌, drop}
use Rattle.clause_learning.specs.ConflictAnalysis.{are_covered}
use Rattle.clause_learning.proofs.seen.Seen.covers.Given as goal

abbrev pub invariant-loop-literal : goal.invariant-loop-literal
invariant-loop-literal l = are_covered l.trail.entries l.self (drop l.literal-index l.literal-items)
    ≡ are_covered l.trail.entries l.self l.literal-items
