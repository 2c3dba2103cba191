use Rattle.std.proofs.Common.{sym, subst, ◌∙◌}
use Rattle.tsl_terms.specs.SpecView.{spec_tree}
use Rattle.program_tree.specs.ProgramView.{program_tree}
use Rattle.letter_space.specs.SpaceTree.{SpaceTree}
use Rattle.machines.specs.MachineView.{controller_tree}
use Rattle.control_flow_model.specs.ProgramBits.{ProgramHasBits}
use Rattle.control_flow_model.specs.ControllerOf.{IsControllerOf}
use Rattle.program_check.proofs.Accepted.{over_bits}
use Rattle.circuits.specs.CircuitView.{circuit_tree}
use Rattle.controller_circuits.specs.OfController.{IsCircuitOf}
use Rattle.exchange_commands.proofs.program_circuit.circuit_reply.Goals as goal

pub controller_of-requires-clause-bits : goal.controller_of-requires-clause-bits
controller_of-requires-clause-bits c =
    subst (λ (s : SpaceTree). ProgramHasBits s (program_tree c.args.program.now)) (sym c.in-Ok.ensures.space)
    (over_bits (spec_tree c.args.spec.now) (program_tree c.args.program.now) c.requires.over)

pub returns : goal.returns
returns c =
    let controller = controller_tree c.in_ok-controller.controller in
    let circuit = circuit_tree c.in_ok-circuit.circuit in
    record {
      circuit = circuit;
      of_program = record {
        in_range = c.in_ok-circuit.circuit.is_circuit;
        controller = controller;
        is_controller = subst (λ (s : SpaceTree). IsControllerOf s (program_tree c.args.program.now) controller) c.in-Ok.ensures.space
            c.in_ok-controller.ensures;
        is_circuit = subst (λ (s : SpaceTree). IsCircuitOf s controller circuit) c.in-Ok.ensures.space c.in_ok-circuit.ensures;
      };
      is = λ i. record { status = c.new.ensures.status i; text = (c.new.ensures.text ∙ c.in_ok-text.ensures) i };
    }
