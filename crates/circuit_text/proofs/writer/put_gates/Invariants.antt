-- What is written and what is left make the whole.
use Rattle.std.proofs.Common.{◌≡◌, ◌+◌, ◌++◌, map, drop}
use Rattle.tsl_text.specs.Written.{text_of_lines}
use Rattle.circuits.specs.GateView.{gate_tree}
use Rattle.circuit_text.specs.CircuitText.{gate_lines}
use Rattle.circuit_text.proofs.writer.put_gates.Given as goal

abbrev pub invariant-loop-gate : goal.invariant-loop-gate
invariant-loop-gate l = record {
  number : l.own ≡ l.before + l.gate-index;
  text : l.out.items ++ text_of_lines (gate_lines l.own (map gate_tree (drop l.gate-index l.gates)))
      ≡ l.fn.out.items ++ text_of_lines (gate_lines l.before (map gate_tree l.gates));
}
