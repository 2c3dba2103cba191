-- The literals of the first bits.
use Rattle.std.proofs.Common.{◌-◌}
use Rattle.controller_circuits.specs.internal.Gates.{gates_tree}
use Rattle.controller_circuits.specs.internal.Tables.{AreOfWords}
use Rattle.controller_circuits.proofs.halving.literals_of_words.Given as goal

abbrev pub invariant-loop-bit : goal.invariant-loop-bit
invariant-loop-bit l = AreOfWords (gates_tree l.fn.gates) (gates_tree l.gates) l.words l.first (l.bit - l.first) l.literals.items
