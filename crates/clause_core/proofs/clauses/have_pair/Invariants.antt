use Rattle.std.proofs.Common.{◌≡◌, length}
use Rattle.clause_core.specs.Clauses.{IsIncreasing, has_pair}
use Rattle.clause_core.proofs.clauses.have_pair.Given as goal

abbrev pub invariant-loop-rest : goal.invariant-loop-rest
invariant-loop-rest l = record {
  same : has_pair l.rest ≡ has_pair l.literals;
  rises : IsIncreasing l.rest;
}

abbrev pub decreases-loop-rest : goal.decreases-loop-rest
decreases-loop-rest l = length l.rest
