use Rattle.std.proofs.Common.{◌≡◌, ◌||◌, ℕ, drop}
use Rattle.clause_learning.specs.ConflictAnalysis.{is_seen, is_of_clause, AreSeen}
use Rattle.clause_learning.proofs.seen.Seen.see_clause.Given as goal

abbrev pub invariant-loop-literal : goal.invariant-loop-literal
invariant-loop-literal l = record {
  seen : AreSeen l.trail l.self;
  so_far : (place : ℕ) → (is_seen l.self place || is_of_clause l.trail.entries (drop l.literal-index l.literal-items) place)
      ≡ (is_seen l.fn.self place || is_of_clause l.trail.entries l.literal-items place);
}
