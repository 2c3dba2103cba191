use Rattle.bounded_encoding.proofs.Moved.{IsPut}
use Rattle.bounded_encoding.proofs.edge_literals.put_moved.Given as goal

abbrev pub invariant-loop-place : goal.invariant-loop-place
invariant-loop-place l = IsPut l.fn.base l.place l.fn.asked l.literals
