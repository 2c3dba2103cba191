use Rattle.circuit_text.proofs.WrittenCircuits.{one_circuit}
use Rattle.circuit_text.proofs.laws.written_circuits_are_read.Goals as goal

pub returns-clause-one : goal.returns-clause-one
returns-clause-one c = one_circuit
