use Rattle.std.proofs.Common.{map, refl}
use Rattle.circuits.specs.GateView.{gate_tree}
use Rattle.circuit_text.specs.internal.Lines.{unbegun}
use Rattle.circuit_text.proofs.ReadCircuits.{circuit_read}
use Rattle.circuit_text.proofs.reader.read_circuit.Goals as goal

pub invariant_of-result : goal.invariant_of-result
invariant_of-result c = record {
  is_circuit = (circuit_read c.args.text.now _ c.read_text.new.reader
      (λ i. unbegun (record {
        inputs = 0;
        latches = c.new.ensures.items i;
        outputs = c.new-2.ensures.items i;
        gates = map gate_tree (c.new-3.ensures.items i);
      }))
      (c.in_ok-read_text.ensures.ok refl) _ _ _ c.from_vec.ensures c.from_vec-2.ensures c.from_vec-3.ensures).0;
}

pub returns-clause-ok : goal.returns-clause-ok
returns-clause-ok c = (circuit_read c.args.text.now _ c.read_text.new.reader
    (λ i. unbegun (record {
      inputs = 0;
      latches = c.new.ensures.items i;
      outputs = c.new-2.ensures.items i;
      gates = map gate_tree (c.new-3.ensures.items i);
    }))
    (c.in_ok-read_text.ensures.ok refl) _ _ _ c.from_vec.ensures c.from_vec-2.ensures c.from_vec-3.ensures).1
