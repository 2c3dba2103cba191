use Rattle.std.proofs.Common.{◌≡◌, length}
use Rattle.clause_core.specs.Clauses.{IsIncreasing, is_contained}
use Rattle.clause_core.proofs.clauses.contains.Given as goal

abbrev pub invariant-loop-first : goal.invariant-loop-first
invariant-loop-first l = record {
  same : is_contained l.wanted l.offered ≡ is_contained l.small l.large;
  small_rises : IsIncreasing l.wanted;
  large_rises : IsIncreasing l.offered;
}

abbrev pub decreases-loop-first : goal.decreases-loop-first
decreases-loop-first l = length l.offered
