-- Runs of circuits and of controllers.
use Rattle.std.specs.Prelude.{ℕ, Bool, false, List, [], ◌∷◌, length, replicate, Option, Some, option_map, option_and_then}
use Rattle.letter_space.specs.SpaceTree.{SpaceTree}
use Rattle.machines.specs.MachineTree.{ControllerTree, controller_entry}
use Rattle.circuits.specs.Circuits.{CircuitTree, outputs_of, next_of}
use Rattle.controller_circuits.specs.OfController.{updates_at}

-- the outputs of a circuit over a list of inputs, from these latches on
abbrev pub outputs_from : CircuitTree → List Bool → List (List Bool) → List (List Bool)
outputs_from c latches [] = []
outputs_from c latches (inputs ∷ rest) = outputs_of c inputs latches ∷ outputs_from c (next_of c inputs latches) rest

-- the outputs of a circuit over a list of inputs: latches start false
abbrev pub outputs_along : CircuitTree → List (List Bool) → List (List Bool)
outputs_along c inputs = outputs_from c (replicate (length c.latches) false) inputs

-- the updates that a controller makes over a list of valuations, from a state on
abbrev pub updates_from : SpaceTree → ControllerTree → ℕ → List ℕ → Option (List (List Bool))
updates_from space m state [] = Some []
updates_from space m state (v ∷ vs) =
    option_and_then (λ e. option_map (λ rest. updates_at space v e ∷ rest) (updates_from space m e.next vs)) (controller_entry m state v)

-- the updates that a controller makes over a list of valuations: it begins in state 0
abbrev pub updates_along : SpaceTree → ControllerTree → List ℕ → Option (List (List Bool))
updates_along space m valuations = updates_from space m 0 valuations
