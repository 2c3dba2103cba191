-- A controller's circuit runs as the controller does.
use Rattle.std.proofs.Common.{◌≡◌, ◌∙◌, ℕ, zero, suc, ◌+◌, ◌*◌, ◌<◌, ◌==◌, Bool, false, List, [], ◌∷◌, length, map, replicate, Some, refl, sym, ap, arith}
use Rattle.std.specs.List.{AllByRecursion}
use Rattle.std.specs.Prelude.{option_map, option_and_then}
use Rattle.std.proofs.lemmas.Nat.Bits.{bit_at-zero}
use Rattle.std.proofs.lemmas.Option.{slice_get-map}
use Rattle.letter_space.specs.SpaceTree.{SpaceTree}
use Rattle.letter_space.specs.Letters.{valuation_count}
use Rattle.machines.specs.MachineTree.{EntryTree, ControllerTree, IsController, controller_entry}
use Rattle.machines.specs.Moves.{FitsSpace}
use Rattle.machines.proofs.MovesListed.{cell_there}
use Rattle.circuits.specs.Circuits.{CircuitTree}
use Rattle.controller_circuits.specs.Bits.{bits_from, binary_digits}
use Rattle.controller_circuits.specs.OfController.{inputs_at, updates_at, IsCircuitOf}
use Rattle.controller_circuits.specs.Runs.{outputs_from, outputs_along, updates_from, updates_along}
use Rattle.controller_circuits.proofs.CircuitLemmas.{some_cell}

no_bits : (first count : ℕ) → bits_from first count 0 ≡ replicate count false
no_bits first zero = refl
no_bits first (suc count) =
    let head = ap (λ n. n == 1) (bit_at-zero first) in
    let rest = no_bits (suc first) count in
    λ i. head i ∷ rest i

module _ (space : SpaceTree) (m : ControllerTree) (c : CircuitTree) (is : IsController m) (fits : FitsSpace space m)
    (made : IsCircuitOf space m c) where
  goes_on : (s v : ℕ) (e : EntryTree) → controller_entry m s v ≡ Some e → e.next < m.states
  goes_on s v e at =
      let there = cell_there m.valuations m.entries s v e at in
      is.stays (s * m.valuations + v) e.next
      (slice_get-map (λ (f : EntryTree). f.next) m.entries (s * m.valuations + v) ∙ ap (option_map (λ (f : EntryTree). f.next)) there)

  runs : (vs : List ℕ) → AllByRecursion (λ v. v < valuation_count space) vs → (s : ℕ) → s < m.states
      → updates_from space m s vs ≡ Some (outputs_from c (binary_digits (length c.latches) s) (map (inputs_at space) vs))
  runs [] all s within = refl
  runs (v ∷ vs) all s within =
      let entry = some_cell m.states m.valuations m.entries s v is.has_entries within (omega (arith, all.0, fits.valuations)) in
      let e = entry.0 in
      let step = made.steps s v e entry.1 in
      let rest = runs vs all.1 e.next (goes_on s v e entry.1) in
      ap (option_and_then (λ (f : EntryTree). option_map (λ (us : List (List Bool)). updates_at space v f ∷ us)
      (updates_from space m f.next vs))) entry.1
      ∙ ap (option_map (λ (us : List (List Bool)). updates_at space v e ∷ us)) rest
      ∙ (λ i. Some (sym step.0 i ∷ outputs_from c (sym step.1 i) (map (inputs_at space) vs)))

  pub runs_as : (vs : List ℕ) → AllByRecursion (λ v. v < valuation_count space) vs
      → updates_along space m vs ≡ Some (outputs_along c (map (inputs_at space) vs))
  runs_as vs all =
      runs vs all 0 (omega (arith, is.has_state))
      ∙ ap (λ latches. Some (outputs_from c latches (map (inputs_at space) vs))) (no_bits 0 (length c.latches))
