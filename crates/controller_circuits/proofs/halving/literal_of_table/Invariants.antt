-- Literals of the places, where the first variables have been tested.
use Rattle.controller_circuits.specs.internal.Gates.{gates_tree}
use Rattle.controller_circuits.specs.internal.Tables.{AreTested}
use Rattle.controller_circuits.proofs.halving.literal_of_table.Given as goal

abbrev pub invariant-loop-level : goal.invariant-loop-level
invariant-loop-level l = AreTested (gates_tree l.fn.gates) (gates_tree l.gates) l.fn.table.items l.level l.literals.items
