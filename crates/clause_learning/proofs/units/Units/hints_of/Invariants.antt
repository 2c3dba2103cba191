use Rattle.std.proofs.Common.{ℕ, List, ◌++◌, drop}
use Rattle.clause_learning.proofs.Noting.{AreHintsFor}
use Rattle.clause_learning.proofs.units.Units.hints_of.Given as goal

abbrev pub invariant-loop-other : goal.invariant-loop-other
invariant-loop-other l = (later : List ℕ) → AreHintsFor l.trail.clauses l.literal (drop l.other-index l.other-items) later →
    AreHintsFor l.trail.clauses l.literal l.other-items (l.hints.items ++ later)
