use Rattle.letter_space.specs.SpecSpace.{spec_space}
use Rattle.controller_circuits.proofs.RunLemmas.{runs_as}
use Rattle.tsl_tool.proofs.exchange_laws.circuits_run_as_programs.Goals as goal

pub returns : goal.returns
returns c = λ spec program circuit made.
    runs_as (spec_space spec) made.controller circuit made.is_controller.table made.is_controller.fits made.is_circuit
