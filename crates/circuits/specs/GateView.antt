-- A gate as a pure value.
use Rattle.circuits.specs.declared.gate.Gate.{Gate}
use Rattle.circuits.specs.Circuits.{GateTree}

abbrev pub gate_tree : Gate → GateTree
gate_tree g = record { left = g.left; right = g.right }
