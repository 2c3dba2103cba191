-- A walk under a valuation is the walk under the truths that its bits are.
use Rattle.std.proofs.Common.{◌≡◌, ◌∙◌, ℕ, zero, suc, Bool, true, cond, length, Option, Some, slice_get, ap}
use Rattle.std.specs.Prelude.{option_and_then, is_some}
use Rattle.std.specs.List.{list_all}
use Rattle.std.proofs.lemmas.Option.{none-some, option_and_then_some}
use Rattle.base_library.proofs.Passes.{passes_at}
use Rattle.tsl_terms.specs.TermTree.{ProbeTree}
use Rattle.program_tree.specs.NodeTree.{NodeTree, branch, assign}
use Rattle.program_tree.specs.ProgramTree.{ProgramTree}
use Rattle.program_tree.specs.Walk.{Action, done_at, walk_from, walk}
use Rattle.letter_space.specs.SpaceTree.{SpaceTree}
use Rattle.letter_space.specs.Bits.{bit_of_probe}
use Rattle.control_flow_model.specs.ProgramBits.{node_has_bits}

-- truths that agree with others on the probes that have a bit
module _ (space : SpaceTree) (program : ProgramTree) (have : list_all (node_has_bits space) program.nodes ≡ true)
    (truths others : ProbeTree → Option Bool)
    (same : (p : ProbeTree) (holds : Bool) → is_some (bit_of_probe space p) ≡ true → truths p ≡ Some holds → others p ≡ Some holds) where
  follows : (n i : ℕ) (action : Action) → walk_from program.nodes truths n i ≡ Some action →
      walk_from program.nodes others n i ≡ Some action
  follows zero i action walks = absurd (none-some action walks)
  follows (suc n) i action walks = option_and_then_some _ _ _ walks (λ node at done. here node at done (λ j. follows n j action))
    where
      here : (node : NodeTree) → slice_get program.nodes i ≡ Some node →
          done_at truths (walk_from program.nodes truths n) node ≡ Some action →
          ((j : ℕ) → walk_from program.nodes truths n j ≡ Some action → walk_from program.nodes others n j ≡ Some action) →
          walk_from program.nodes others (suc n) i ≡ Some action
      here (assign ts go) at done further = ap (option_and_then (done_at others (walk_from program.nodes others n))) at ∙ done
      here (branch t a b) at done further = option_and_then_some _ _ _ done (λ holds truth rest.
          ap (option_and_then (done_at others (walk_from program.nodes others n))) at
          ∙ ap (option_and_then (λ x. walk_from program.nodes others n (cond x a b)))
          (same t holds (passes_at (node_has_bits space) program.nodes i (branch t a b) have at) truth)
          ∙ further (cond holds a b) rest)

  pub walk_follows : (state : ℕ) (action : Action) → walk program truths state ≡ Some action → walk program others state ≡ Some action
  walk_follows state action walks = option_and_then_some _ _ _ walks (λ node at rest.
      ap (option_and_then (walk_from program.nodes others (length program.nodes))) at
      ∙ follows (length program.nodes) node action rest)
