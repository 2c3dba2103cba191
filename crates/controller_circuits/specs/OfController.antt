-- The circuit of a controller: its inputs are the predicate terms, its outputs the updates, and its latches the binary digits of the
-- state, least first.
use Rattle.std.specs.Prelude.{◌≡◌, ℕ, ◌≤◌, ◌^◌, Bool, List, length, Option, Some, slice_get}
use Rattle.std.specs.Prelude.{if◌then◌else◌}
use Rattle.letter_space.specs.SpaceTree.{SpaceTree, choice_count}
use Rattle.letter_space.specs.Letters.{letter_of}
use Rattle.machines.specs.MachineTree.{EntryTree, ControllerTree, controller_entry}
use Rattle.circuits.specs.Circuits.{CircuitTree, outputs_of, next_of}
use Rattle.controller_circuits.specs.Bits.{bits_from, binary_digits}

-- so many binary digits tell so many states apart, and fewer do not
pub record AreDigitsFor (states count : ℕ) : Type 0 where
  pub enough : states ≤ 2 ^ count
  pub least : (n : ℕ) → states ≤ 2 ^ n → count ≤ n

-- what is true of the predicate terms under a valuation
abbrev pub inputs_at : SpaceTree → ℕ → List Bool
inputs_at space valuation = binary_digits (length space.predicates) valuation

-- which updates an entry makes under a valuation: the bits of its letter that stand for them, in order
abbrev pub updates_at : SpaceTree → ℕ → EntryTree → List Bool
updates_at space valuation e = bits_from (length space.predicates) (choice_count space.controlled) (letter_of space valuation e.choices)

-- what a controller's entries give under their valuations is the same for all of them
abbrev pub IsAlways : {X : Type 0} → ControllerTree → (ℕ → EntryTree → Option X) → X → Type 0
IsAlways m given x = (s v : ℕ) (e : EntryTree) → controller_entry m s v ≡ Some e → given v e ≡ Some x

-- the literal of a constant
abbrev pub constant_literal : Bool → ℕ
constant_literal b = if b then 1 else 0

-- From the digits of a state and under a valuation the outputs are the updates of the entry, and the latches next the digits of its
-- next state. An output or a digit that is the same at all entries is a constant.
pub record IsCircuitOf (space : SpaceTree) (m : ControllerTree) (c : CircuitTree) : Type 0 where
  pub inputs : c.inputs ≡ length space.predicates
  pub latches : AreDigitsFor m.states (length c.latches)
  pub steps : (s v : ℕ) (e : EntryTree) → controller_entry m s v ≡ Some e
      → (outputs_of c (inputs_at space v) (binary_digits (length c.latches) s) ≡ updates_at space v e)
      × (next_of c (inputs_at space v) (binary_digits (length c.latches) s) ≡ binary_digits (length c.latches) e.next)
  pub constant_outputs : (k : ℕ) (b : Bool) → IsAlways m (λ v e. slice_get (updates_at space v e) k) b
      → slice_get c.outputs k ≡ Some (constant_literal b)
  pub constant_next : (k : ℕ) (b : Bool) → IsAlways m (λ v e. slice_get (binary_digits (length c.latches) e.next) k) b
      → slice_get c.latches k ≡ Some (constant_literal b)
