use Rattle.std.proofs.Common.{◌≡◌, ◌+◌}
use Rattle.std.specs.List.{prefix_len}
use Rattle.clause_core.specs.Clauses.{assignment_of}
use Rattle.bounded_encoding.specs.ClauseLists.{between, below}
use Rattle.bounded_encoding.proofs.reading.true_run.Given as goal

abbrev pub invariant-loop-number : goal.invariant-loop-number
invariant-loop-number l =
    l.number + prefix_len (λ i. assignment_of l.truths (l.from + i)) (between l.number l.count)
    ≡ prefix_len (λ i. assignment_of l.truths (l.from + i)) (below l.count)
