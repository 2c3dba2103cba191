-- A walk through a program over the bits of a space ends, under each valuation.
use Rattle.std.proofs.Common.{◌≡◌, ◌∙◌, ℕ, zero, suc, ◌<◌, Bool, true, false, cond, List, length, Some, slice_get, refl, ap, arith}
use Rattle.std.specs.Prelude.{option_map, option_and_then, is_some, IsSome, map}
use Rattle.std.proofs.lemmas.List.{length-map}
use Rattle.base_library.proofs.Options.{some_is}
use Rattle.base_library.proofs.Passes.{passes_at}
use Rattle.base_library.proofs.Places.{slice_get_some}
use Rattle.tsl_terms.specs.TermTree.{ProbeTree}
use Rattle.program_tree.specs.declared.program.Program.{Program}
use Rattle.program_tree.specs.NodeTree.{NodeTree, branch, assign, node_tree}
use Rattle.program_tree.specs.ProgramView.{program_tree}
use Rattle.program_tree.specs.Walk.{Action, done_at, walk_from, walk}
use Rattle.ltl_formula.specs.Cubes.{has_bit}
use Rattle.letter_space.specs.SpaceTree.{SpaceTree}
use Rattle.letter_space.specs.Bits.{bit_of_probe}
use Rattle.control_flow_model.specs.ProgramBits.{node_has_bits, ProgramHasBits}
use Rattle.control_flow_model.specs.ControllerOf.{truth_under}

module _ (program : Program) (space : SpaceTree) (valuation : ℕ) (bits : ProgramHasBits space (program_tree program)) where
  abbrev nodes : List NodeTree
  nodes = map node_tree program.nodes

  pub test_has_bit : (i a b : ℕ) (t : ProbeTree) → slice_get nodes i ≡ Some (branch t a b) → is_some (bit_of_probe space t) ≡ true
  test_has_bit i a b t at = passes_at (node_has_bits space) nodes i (branch t a b) bits.nodes at

  done_from : (n i : ℕ) → i < n → i < length nodes → (action : Action) × (walk_from nodes (truth_under space valuation) n i ≡ Some action)
  done_from zero i below within = absurd (omega arith)
  done_from (suc n) i below within =
      let node = slice_get_some nodes i within in
      here node.0 node.1 (λ j. done_from n j)
    where
      here : (node : NodeTree) → slice_get nodes i ≡ Some node →
          ((j : ℕ) → j < n → j < length nodes → (action : Action) × (walk_from nodes (truth_under space valuation) n j ≡ Some action)) →
          (action : Action) × (walk_from nodes (truth_under space valuation) (suc n) i ≡ Some action)
      here (assign ts go) at smaller = (
        record { updates = ts; go = go },
        ap (option_and_then (done_at (truth_under space valuation) (walk_from nodes (truth_under space valuation) n))) at,
      )
      here (branch t a b) at smaller =
          let fits = program.branches_fit i a b t at in
          let bit = some_is (bit_of_probe space t) (test_has_bit i a b t at) in
          let holds = has_bit bit.0 valuation in
          let rest = smaller (cond holds a b) (chosen holds fits.0 fits.1) (omega (arith, chosen_below holds fits.0 fits.1, within)) in (
            rest.0,
            ap (option_and_then (done_at (truth_under space valuation) (walk_from nodes (truth_under space valuation) n))) at
                ∙ ap (option_and_then (λ x. walk_from nodes (truth_under space valuation) n (cond x a b)))
                (ap (option_map (λ k. has_bit k valuation)) bit.1)
                ∙ rest.1,
          )
        where
          chosen : (holds : Bool) → a < i → b < i → cond holds a b < n
          chosen true left right = omega (arith, left, below)
          chosen false left right = omega (arith, right, below)

          chosen_below : (holds : Bool) → a < i → b < i → cond holds a b < i
          chosen_below true left right = left
          chosen_below false left right = right

  pub walk_there : (state : ℕ) → state < length program.states → IsSome (walk (program_tree program) (truth_under space valuation) state)
  walk_there state within =
      let node = slice_get_some program.states state within in
      let below = program.states_fit.1 state node.0 node.1 in
      let inside : node.0 < length nodes = omega (arith, below, length-map program.nodes node_tree) in
      let done = done_from (length nodes) node.0 inside inside in
      rw (ap (option_and_then (walk_from nodes (truth_under space valuation) (length nodes))) node.1 ∙ done.1) refl
