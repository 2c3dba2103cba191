-- What the command `circuit` replies.
use Rattle.std.specs.Prelude.{◌≡◌, ◌≢◌, ℕ, List}
use Rattle.tsl_terms.specs.SpecTree.{SpecTree}
use Rattle.program_tree.specs.ProgramTree.{ProgramTree}
use Rattle.letter_space.specs.SpecSpace.{spec_space}
use Rattle.machines.specs.MachineTree.{ControllerTree}
use Rattle.control_flow_model.specs.ControllerOf.{IsControllerOf}
use Rattle.circuits.specs.Circuits.{CircuitTree, IsCircuit}
use Rattle.controller_circuits.specs.OfController.{IsCircuitOf}
use Rattle.circuit_text.specs.CircuitText.{circuit_text}
use Rattle.tool_io.specs.declared.status.Status.TheVariants.{Done}
use Rattle.tool_io.specs.declared.reply.Reply.{Reply}
use Rattle.checking_commands.specs.Check.{CheckOutcome}
use Rattle.checking_commands.specs.Judged.{IsAcceptedPair}

-- this is a circuit, and one of the controller of a program
pub record IsCircuitOfProgram (spec : SpecTree) (program : ProgramTree) (circuit : CircuitTree) : Type 0 where
  pub in_range : IsCircuit circuit
  pub controller : ControllerTree
  pub is_controller : IsControllerOf (spec_space spec) program controller
  pub is_circuit : IsCircuitOf (spec_space spec) controller circuit

-- the reply is the text of such a circuit
pub record TellsCircuit (spec : SpecTree) (program : ProgramTree) (reply : Reply) : Type 0 where
  pub circuit : CircuitTree
  pub of_program : IsCircuitOfProgram spec program circuit
  pub is : reply ≡ record { status = Done; text = circuit_text circuit }

pub data CircuitOutcome (bound : ℕ) (bytes : List ℕ) (reply : Reply) : Type 0 where
  -- `check` does not say yes, and the reply is its own
  not_accepted : CheckOutcome bound bytes reply → reply.status ≢ Done → CircuitOutcome bound bytes reply
  -- the program is accepted under the specification
  accepted : (spec : SpecTree) (program : ProgramTree) → IsAcceptedPair bound bytes spec program → TellsCircuit spec program reply →
      CircuitOutcome bound bytes reply

-- The bytes spell a specification and a program that is accepted under it at this bound, and the text is that of a circuit of the
-- program's controller.
pub record IsWrittenCircuit (bound : ℕ) (bytes text : List ℕ) : Type 0 where
  pub spec : SpecTree
  pub program : ProgramTree
  pub accepted : IsAcceptedPair bound bytes spec program
  pub circuit : CircuitTree
  pub of_program : IsCircuitOfProgram spec program circuit
  pub text_is : text ≡ circuit_text circuit
