use Rattle.std.proofs.Common.{ℕ, List, ◌≡◌, ◌∙◌, ◌+◌, length, get_or, take, sym, subst, refl}
use Rattle.std.proofs.lemmas.List.{length-map}
use Rattle.tsl_terms.specs.TermTree.{probe_tree}
use Rattle.letter_space.specs.SpaceView.{space_tree}
use Rattle.machines.specs.MachineView.{controller_tree}
use Rattle.control_flow_model.specs.internal.Parts.{part_keys, AreShared}
use Rattle.control_flow_model.proofs.NodeLemmas.{shared_more}
use Rattle.control_flow_model.proofs.sharing.shared_trees.Goals as goal

pub loop-state-preserved : goal.loop-state-preserved
loop-state-preserved c =
    let counts : c.len-bits.result ≡ length (space_tree c.args.space.now).predicates =
    c.len-bits.ensures ∙ sym (length-map c.args.space.now.predicates probe_tree) in
    subst (AreShared (space_tree c.args.space.now) (controller_tree c.args.controller.now)
    (take (c.loop-state.state-index + 1) c.args.kept.now) (part_keys c.number_of_tree.new.parts.keys))
    (sym {A = List ℕ} c.in_ok-push.ensures.items)
    (shared_more (space_tree c.args.space.now) (controller_tree c.args.controller.now) c.args.kept.now c.loop-state.state-index
    (get_or c.args.kept.now c.loop-state.state-index 0) c.len-bits.result (part_keys c.loop-state.parts.keys)
    (part_keys c.number_of_tree.new.parts.keys) c.loop-state.roots.items c.in_ok-number_of_tree.field-0 c.loop-state-test.true refl counts
    c.loop-state.invariant c.in_ok-number_of_tree.ensures)
