-- Literals so far, one for each two neighbours.
use Rattle.std.proofs.Common.{◌≡◌, length}
use Rattle.controller_circuits.specs.internal.Gates.{gates_tree}
use Rattle.controller_circuits.specs.internal.Tables.{AreChosen}
use Rattle.controller_circuits.proofs.halving.halved.Given as goal

abbrev pub invariant-loop-place : goal.invariant-loop-place
invariant-loop-place l = record {
  count : length l.made.items ≡ l.place;
  chosen : AreChosen (gates_tree l.fn.gates) (gates_tree l.gates) l.test l.literals l.made.items;
}
