-- What holds of the terms of a specification's atoms holds of its predicate terms and choices, and so of the nodes and windows over
-- its bits.
use Rattle.std.proofs.Common.{◌≡◌, ◌∙◌, ℕ, ◌+◌, ◌==◌, Bool, true, false, not, cond, List, [], ◌∷◌, ◌++◌, length, map, Some, refl, sym, ap}
use Rattle.std.specs.Prelude.{is_some, flat_map, option_and_then}
use Rattle.std.specs.List.{list_all, AllByRecursion}
use Rattle.std.proofs.lemmas.Bool.{and_parts, and_from, false≢true}
use Rattle.base_library.proofs.Each.{each_joined, each_filtered, each_flat_map, each_weaker}
use Rattle.base_library.proofs.Finds.{found_has}
use Rattle.base_library.proofs.Options.{some_is, there_before}
use Rattle.base_library.proofs.Passes.{each_from_list_all, list_all_from_each, list_all_weaker, passes_at}
use Rattle.tsl_terms.specs.TermTree.{TermTree, ProbeTree, signal}
use Rattle.tsl_terms.specs.FormulaTree.{Atom, test, update}
use Rattle.tsl_terms.specs.Atoms.{atoms}
use Rattle.tsl_terms.specs.SameTree.{same_tree, same_probe_tree}
use Rattle.tsl_terms.specs.Distinct.{without_repeats}
use Rattle.tsl_terms.specs.SpecTree.{SpecTree, whole_formula}
use Rattle.tsl_terms.specs.Signals.{term_for, is_cell, cells_of, outputs_of, choices_of}
use Rattle.tsl_terms.specs.Predicates.{probe_of, predicates_of}
use Rattle.program_tree.specs.NodeTree.{NodeTree, branch, assign}
use Rattle.letter_space.specs.SpaceTree.{ControlledTree}
use Rattle.letter_space.specs.Bits.{bit_of_probe, bit_of_choice, controlled_with, bit_of_update}
use Rattle.letter_space.specs.SpecSpace.{controlled_from, spec_space}
use Rattle.control_flow_model.specs.ProgramBits.{are_terms_chosen, node_has_bits}
use Rattle.control_flow_model.proofs.PickedTerms.{picked_place}
use Rattle.control_flow_model.proofs.RunLoops.{probe_at_bit}

-- whether what a node tests passes, or each term that it assigns
abbrev pub node_passes : (ProbeTree → Bool) → (TermTree → Bool) → NodeTree → Bool
node_passes probe_passes term_passes (branch t then_node else_node) = probe_passes t
node_passes probe_passes term_passes (assign ts go) = list_all term_passes ts

-- without repeats, each member is one of those before
each_without_repeats : {X : Type 0} (P : X → Type 0) (same : X → X → Bool) (xs : List X) → AllByRecursion P xs →
    AllByRecursion P (without_repeats same xs)
each_without_repeats P same [] each = tt
each_without_repeats P same (x ∷ xs) each =
    (each.0, each_filtered P (λ y. not (same x y)) (without_repeats same xs) (each_without_repeats P same xs each.1))

-- signals with their choices are these signals
pub signals_of : (choices : ℕ → List TermTree) (first : ℕ) (signals : List ℕ) →
    map (λ (c : ControlledTree). c.signal) (controlled_from choices first signals) ≡ signals
signals_of choices first [] = refl
signals_of choices first (s ∷ signals) = ap (λ rest. s ∷ rest) (signals_of choices (first + length (choices s)) signals)

-- the signal of an update that has a bit, with its choices
pub updated_with_bit : (spec : SpecTree) (s : ℕ) (t : TermTree) → is_some (bit_of_update (spec_space spec) s t) ≡ true →
    (c : ControlledTree) × (controlled_with (spec_space spec).controlled s ≡ Some c) × (is_some (bit_of_choice c t) ≡ true)
updated_with_bit spec s t has =
    let found = there_before (λ (c : ControlledTree). bit_of_choice c t) (controlled_with (spec_space spec).controlled s) has in
    (found.0, found.1, (λ i. is_some (option_and_then (λ (c : ControlledTree). bit_of_choice c t) (sym found.1 i))) ∙ has)

module _ (spec : SpecTree) (atom_passes : Atom → Bool) (all : list_all atom_passes (atoms (whole_formula spec)) ≡ true)
    (probe_passes : ProbeTree → Bool) (of_test : (p : ProbeTree) → atom_passes (test p) ≡ true → probe_passes p ≡ true)
    (term_passes : TermTree → Bool) (of_update : (s : ℕ) (t : TermTree) → atom_passes (update s t) ≡ true → term_passes t ≡ true)
    (of_cell : (s : ℕ) → is_cell spec s ≡ true → term_passes (signal s) ≡ true) where
  each_atom : AllByRecursion (λ a. atom_passes a ≡ true) (atoms (whole_formula spec))
  each_atom = each_from_list_all atom_passes (atoms (whole_formula spec)) all

  probe_passing : (a : Atom) → atom_passes a ≡ true → AllByRecursion (λ p. probe_passes p ≡ true) (probe_of a)
  probe_passing (test p) passes = (of_test p passes, tt)
  probe_passing (update s t) passes = tt

  pub predicates_pass : list_all probe_passes (predicates_of spec) ≡ true
  predicates_pass =
      list_all_from_each probe_passes (predicates_of spec)
      (each_without_repeats (λ p. probe_passes p ≡ true) same_probe_tree (flat_map probe_of (atoms (whole_formula spec)))
      (each_flat_map (λ p. probe_passes p ≡ true) probe_of (atoms (whole_formula spec))
      (each_weaker _ (λ a. AllByRecursion (λ p. probe_passes p ≡ true) (probe_of a)) probe_passing
      (atoms (whole_formula spec)) each_atom)))

  term_passing : (s : ℕ) (a : Atom) → atom_passes a ≡ true → AllByRecursion (λ t. term_passes t ≡ true) (term_for s a)
  term_passing s (test p) passes = tt
  term_passing s (update r t) passes = by (r == s)
    where
      by : (b : Bool) → AllByRecursion (λ u. term_passes u ≡ true) (cond b (t ∷ []) [])
      by true = (of_update r t passes, tt)
      by false = tt

  pub choices_pass : (s : ℕ) → list_all term_passes (choices_of spec s) ≡ true
  choices_pass s =
      list_all_from_each term_passes (choices_of spec s)
      (each_without_repeats (λ t. term_passes t ≡ true) same_tree _
      (each_joined (λ t. term_passes t ≡ true) _ _
      (each_flat_map (λ t. term_passes t ≡ true) (term_for s) (atoms (whole_formula spec))
      (each_weaker _ (λ a. AllByRecursion (λ t. term_passes t ≡ true) (term_for s a)) (term_passing s) (atoms (whole_formula spec))
      each_atom))
      (itself (is_cell spec s) refl)))
    where
      itself : (b : Bool) → is_cell spec s ≡ b → AllByRecursion (λ t. term_passes t ≡ true) (cond b (signal s ∷ []) [])
      itself true cell = (of_cell s cell, tt)
      itself false other = tt

  -- each signal's choices
  pub controlled_pass : (first : ℕ) (signals : List ℕ) →
      AllByRecursion (λ (c : ControlledTree). list_all term_passes c.choices ≡ true) (controlled_from (choices_of spec) first signals)
  controlled_pass first [] = tt
  controlled_pass first (s ∷ signals) = (choices_pass s, controlled_pass (first + length (choices_of spec s)) signals)

  -- terms that are choices
  terms_pass : (first : ℕ) (signals : List ℕ) (ts : List TermTree) →
      are_terms_chosen (controlled_from (choices_of spec) first signals) ts ≡ true → list_all term_passes ts ≡ true
  terms_pass first [] [] chosen = refl
  terms_pass first [] (t ∷ ts) chosen = absurd (false≢true chosen)
  terms_pass first (s ∷ signals) [] chosen = refl
  terms_pass first (s ∷ signals) (t ∷ ts) chosen =
      let c : ControlledTree = record { signal = s; choices = choices_of spec s; first = first } in
      let both = and_parts (is_some (bit_of_choice c t)) _ chosen in
      let bit = some_is (bit_of_choice c t) both.0 in
      and_from (term_passes t) (list_all term_passes ts)
      (passes_at term_passes (choices_of spec s) _ t (choices_pass s) (picked_place c t bit.0 (sym bit.1)))
      (terms_pass (first + length (choices_of spec s)) signals ts both.1)

  -- a probe, or an update, that has a bit
  pub probe_with_bit : (p : ProbeTree) → is_some (bit_of_probe (spec_space spec) p) ≡ true → probe_passes p ≡ true
  probe_with_bit p has =
      let bit = some_is (bit_of_probe (spec_space spec) p) has in
      passes_at probe_passes (predicates_of spec) bit.0 p predicates_pass (probe_at_bit (spec_space spec) p bit.0 bit.1)

  pub update_with_bit : (s : ℕ) (t : TermTree) → is_some (bit_of_update (spec_space spec) s t) ≡ true → term_passes t ≡ true
  update_with_bit s t has =
      let found = updated_with_bit spec s t has in
      let c : ControlledTree = found.0 in
      let bit = some_is (bit_of_choice c t) found.2 in
      passes_at term_passes c.choices _ t
      (found_has (λ (d : ControlledTree). d.signal == s) (λ (d : ControlledTree). list_all term_passes d.choices ≡ true)
      (spec_space spec).controlled c (controlled_pass (length (predicates_of spec)) (cells_of spec ++ outputs_of spec)) found.1)
      (picked_place c t bit.0 (sym bit.1))

  -- nodes over the bits
  node_passing : (n : NodeTree) → node_has_bits (spec_space spec) n ≡ true → node_passes probe_passes term_passes n ≡ true
  node_passing (branch t a b) has = probe_with_bit t has
  node_passing (assign ts go) has = terms_pass (length (predicates_of spec)) (cells_of spec ++ outputs_of spec) ts has

  pub nodes_pass : (nodes : List NodeTree) → list_all (node_has_bits (spec_space spec)) nodes ≡ true →
      list_all (node_passes probe_passes term_passes) nodes ≡ true
  nodes_pass = list_all_weaker (node_has_bits (spec_space spec)) (node_passes probe_passes term_passes) node_passing
