-- Examples of the definitions: a controller of two states that are entered in turn.
use Rattle.std.specs.Prelude.{◌≡◌, [], ◌∷◌, Some, None}
use Rattle.std.proofs.Common.{refl}
use Rattle.machines.specs.MachineTree.{ControllerTree, controller_entry}

-- goes from each state to the other one, whatever is true
abbrev in_turn : ControllerTree
in_turn = record {
  states = 2;
  valuations = 2;
  entries = record { choices = 0 ∷ []; next = 1 } ∷ record { choices = 0 ∷ []; next = 1 } ∷ record { choices = 1 ∷ []; next = 0 }
      ∷ record { choices = 2 ∷ []; next = 0 } ∷ [];
}

second_of_last : controller_entry in_turn 1 1 ≡ Some (record { choices = 2 ∷ []; next = 0 })
second_of_last = refl

no_third_valuation : controller_entry in_turn 0 2 ≡ None
no_third_valuation = refl
