-- Runs of circuits that `circuit` writes.
use Rattle.std.specs.Prelude.{◌≡◌, ℕ, ◌<◌, List, map, Some}
use Rattle.std.specs.List.{AllByRecursion}
use Rattle.tsl_terms.specs.SpecTree.{SpecTree}
use Rattle.program_tree.specs.ProgramTree.{ProgramTree}
use Rattle.letter_space.specs.SpecSpace.{spec_space}
use Rattle.letter_space.specs.Letters.{valuation_count}
use Rattle.circuits.specs.Circuits.{CircuitTree}
use Rattle.controller_circuits.specs.OfController.{inputs_at}
use Rattle.controller_circuits.specs.Runs.{outputs_along, updates_along}
use Rattle.exchange_commands.specs.Circuit.{IsCircuitOfProgram}

-- Over any list of valuations, one step after another from the start, where all latches are false, the circuit's outputs are the
-- updates that the program's controller makes from its state 0.
abbrev pub RunsAsProgram : (spec : SpecTree) (program : ProgramTree) (circuit : CircuitTree) → IsCircuitOfProgram spec program circuit →
    Type 0
RunsAsProgram spec program circuit made = (valuations : List ℕ) →
    AllByRecursion (λ v. v < valuation_count (spec_space spec)) valuations →
    updates_along (spec_space spec) made.controller valuations
    ≡ Some (outputs_along circuit (map (inputs_at (spec_space spec)) valuations))
