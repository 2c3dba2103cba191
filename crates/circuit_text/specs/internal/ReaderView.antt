-- Internal: what a reader of circuits has read.
use Rattle.std.specs.Prelude.{Option, Some, None, map}
use Rattle.circuits.specs.Circuits.{CircuitTree}
use Rattle.circuits.specs.GateView.{gate_tree}
use Rattle.circuit_text.specs.declared.counts.Counts.{Counts}
use Rattle.circuit_text.specs.declared.reader.CircuitReader.{CircuitReader}
use Rattle.circuit_text.specs.internal.Lines.{Told, State, unbegun, going}

abbrev pub circuit_so_far : CircuitReader → CircuitTree
circuit_so_far r = record {
  inputs = r.inputs;
  latches = r.latches.items;
  outputs = r.outputs.items;
  gates = map gate_tree r.gates.items;
}

abbrev pub told : Counts → Told
told c = record { inputs = c.inputs; latches = c.latches; outputs = c.outputs; gates = c.gates }

abbrev pub state_from : Option Counts → CircuitTree → State
state_from None c = unbegun c
state_from (Some counts) c = going (told counts) c

abbrev pub reader_state : CircuitReader → State
reader_state r = state_from r.counts (circuit_so_far r)
