-- A circuit as a pure value.
use Rattle.std.specs.Prelude.{map}
use Rattle.circuits.specs.declared.circuit.Circuit.{Circuit}
use Rattle.circuits.specs.GateView.{gate_tree}
use Rattle.circuits.specs.Circuits.{CircuitTree}

abbrev pub circuit_tree : Circuit → CircuitTree
circuit_tree c = record { inputs = c.inputs; latches = c.latches; outputs = c.outputs; gates = map gate_tree c.gates }
