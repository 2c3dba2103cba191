-- What is made of a controller is its circuit, and there are few gates.
use Rattle.std.proofs.Common.{◌≡◌, ◌∙◌, ℕ, ◌+◌, ◌*◌, ◌%◌, ◌^◌, ◌<◌, ◌≤◌, List, length, Some, slice_get, sym, ap, subst, arith}
use Rattle.std.proofs.Math.Pow.{pow_mono}
use Rattle.std.proofs.lemmas.Nat.{mul-le}
use Rattle.letter_space.specs.SpaceTree.{SpaceTree, choice_count}
use Rattle.letter_space.specs.Letters.{letter_of}
use Rattle.machines.specs.MachineTree.{EntryTree, ControllerTree, IsController}
use Rattle.machines.specs.Moves.{FitsSpace}
use Rattle.circuits.specs.Circuits.{GateTree, CircuitTree, IsCircuit}
use Rattle.controller_circuits.specs.OfController.{AreDigitsFor, IsCircuitOf}
use Rattle.controller_circuits.specs.internal.Joining.{AreGates}
use Rattle.controller_circuits.specs.internal.Gates.{GatesTree, variables_so_far}
use Rattle.controller_circuits.specs.internal.Tables.{AreOfWords, padded_entry}
use Rattle.controller_circuits.proofs.CircuitLemmas.{AreWords, is_circuit_of, is_circuit}

-- so many gates are made for so many literals
pub few_made : (before count : ℕ) → before ≤ 16 → count ≤ 64 → count * (3 * 2 ^ before) ≤ 64 * (3 * 65536)
few_made before count small few =
    let power : 2 ^ before ≤ 2 ^ 16 = pow_mono small in
    let places : 3 * 2 ^ before ≤ 3 * 65536 = omega (arith, power) in
    mul-le count (3 * 2 ^ before) 64 (3 * 65536) few places

pub few_then : (g : GatesTree) (count : ℕ) → g.before ≤ 16 → count ≤ 64 → length g.gates ≤ 64 * (3 * 65536)
    → variables_so_far g + count * (3 * 2 ^ g.before) < 2 ^ 31
few_then g count small few made = omega (arith, few_made g.before count small few, small, made)

module _ (space : SpaceTree) (m : ControllerTree) (is : IsController m) (fits : FitsSpace space m) (inputs updates count places : ℕ)
    (inputs_are : inputs ≡ length space.predicates) (updates_are : updates ≡ choice_count space.controlled)
    (enough : AreDigitsFor m.states count) (all : places ≡ 2 ^ (inputs + count)) (letters next : List ℕ)
    (letters_sized : length letters ≡ places)
    (letters_there : (i : ℕ) (e : EntryTree) → i < places → padded_entry m i ≡ Some e
    → slice_get letters i ≡ Some (letter_of space (i % m.valuations) e.choices))
    (next_sized : length next ≡ places)
    (next_there : (i : ℕ) (e : EntryTree) → i < places → padded_entry m i ≡ Some e → slice_get next i ≡ Some e.next)
    (start mid last : GatesTree) (before : start.before ≡ inputs + count) (outputs latches : List ℕ)
    (outputs_made : AreOfWords start mid letters inputs updates outputs) (latches_made : AreOfWords mid last next 0 count latches) where
  places_all : places ≡ 2 ^ (length space.predicates + count)
  places_all = all ∙ ap (λ n. 2 ^ (n + count)) inputs_are

  letter_words : AreWords space m is fits.valuations count enough places places_all (λ v e. letter_of space v e.choices) letters
  letter_words = record { sized = letters_sized; there = letters_there }

  next_words : AreWords space m is fits.valuations count enough places places_all (λ v e. e.next) next
  next_words = record { sized = next_sized; there = next_there }

  outputs_there : AreOfWords start mid letters (length space.predicates) (choice_count space.controlled) outputs
  outputs_there = subst (λ (n : ℕ). AreOfWords start mid letters n (choice_count space.controlled) outputs) inputs_are
      (subst (λ (n : ℕ). AreOfWords start mid letters inputs n outputs) updates_are outputs_made)

  starts : start.before ≡ length space.predicates + count
  starts = before ∙ ap (λ n. n + count) inputs_are

  pub whole : (gates : List GateTree) → last.gates ≡ gates → AreGates last.before last.gates → variables_so_far last < 2 ^ 31
      → length outputs < 2 ^ 32
      → IsCircuitOf space m (record { inputs = inputs; latches = latches; outputs = outputs; gates = gates })
      × IsCircuit (record { inputs = inputs; latches = latches; outputs = outputs; gates = gates })
  whole gates same are few few_outputs =
      subst (λ (c : CircuitTree). IsCircuitOf space m c × IsCircuit c)
      (λ i. record { inputs = sym inputs_are i; latches = latches; outputs = outputs; gates = same i }) (
        is_circuit_of space m is fits.valuations count enough places places_all letters next letter_words next_words
            start mid last starts outputs latches outputs_there latches_made,
        is_circuit space m is fits.valuations count enough places places_all letters next letter_words next_words
            start mid last starts outputs latches outputs_there latches_made are few few_outputs,
      )
