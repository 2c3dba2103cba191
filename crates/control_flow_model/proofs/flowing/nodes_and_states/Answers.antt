use Rattle.std.proofs.Common.{◌≡◌, ◌∙◌, ◌^◌, ◌<◌, length, map, Some, slice_get, sym, ap, subst, arith}
use Rattle.base_library.proofs.Each.{each_weaker}
use Rattle.program_tree.specs.NodeTree.{node_tree}
use Rattle.letter_space.specs.SpaceView.{space_tree}
use Rattle.machines.specs.MachineView.{controller_tree}
use Rattle.machines.proofs.ControllerTables.{is_controller}
use Rattle.control_flow_model.specs.Flow.{shared_trees}
use Rattle.control_flow_model.specs.internal.Parts.{part_keys, AreShared}
use Rattle.control_flow_model.specs.internal.PartNodes.{key_node, AreNodesOf}
use Rattle.control_flow_model.proofs.FlowLemmas.{few_kept, kept_below}
use Rattle.control_flow_model.proofs.NodeLemmas.{few_numbers, few_parts, have_nodes, are_nodes, roots_within}
use Rattle.control_flow_model.proofs.flowing.nodes_and_states.Goals as goal

pub shared_trees-requires-clause-states : goal.shared_trees-requires-clause-states
shared_trees-requires-clause-states c i s at =
    kept_below (controller_tree c.args.controller.now) (is_controller c.args.controller.now) c.in_ok-kept.kept.items
    c.in_ok-kept.ensures i s
    (ap (λ ns. slice_get ns i) (sym c.deref.ensures.value) ∙ at)

pub nodes_of-requires-clause-few : goal.nodes_of-requires-clause-few
nodes_of-requires-clause-few c =
    let few = few_kept (controller_tree c.args.controller.now) (is_controller c.args.controller.now) c.in_ok-kept.kept.items
    c.in_ok-kept.ensures in
    omega (arith, few, ap length c.deref-2.ensures.value, c.requires.few_states)

pub nodes_of-requires-clause-have : goal.nodes_of-requires-clause-have
nodes_of-requires-clause-have c =
    let space = space_tree c.args.space.now in
    let controller = controller_tree c.args.controller.now in
    let kept = c.in_ok-kept.kept.items in
    let keys = part_keys c.in_ok-shared.shared.parts.keys in
    let roots = c.in_ok-shared.shared.roots.items in
    let are : AreShared space controller kept keys roots =
    subst (λ ns. AreShared space controller ns keys roots) c.deref.ensures.value c.in_ok-shared.ensures in
    let few = few_numbers space (length kept) (length (shared_trees are.trees)) c.args.space.now.is_space
    (omega (arith, few_kept controller (is_controller c.args.controller.now) kept c.in_ok-kept.ensures, c.requires.few_states))
    (few_parts space controller c.requires.fits kept c.in_ok-kept.ensures keys roots are) in
    rw (c.deref-2.ensures.value, c.as_slice.ensures.keys)
    (have_nodes space controller c.requires.fits kept c.in_ok-kept.ensures keys roots are (omega (arith, few)))

pub words_of-requires : goal.words_of-requires
words_of-requires c =
    let space = space_tree c.args.space.now in
    let controller = controller_tree c.args.controller.now in
    let kept = c.in_ok-kept.kept.items in
    let keys = part_keys c.in_ok-shared.shared.parts.keys in
    let roots = c.in_ok-shared.shared.roots.items in
    let are : AreShared space controller kept keys roots =
    subst (λ ns. AreShared space controller ns keys roots) c.deref.ensures.value c.in_ok-shared.ensures in
    let few = few_numbers space (length kept) (length (shared_trees are.trees)) c.args.space.now.is_space
    (omega (arith, few_kept controller (is_controller c.args.controller.now) kept c.in_ok-kept.ensures, c.requires.few_states))
    (few_parts space controller c.requires.fits kept c.in_ok-kept.ensures keys roots are) in
    rw c.deref-3.ensures.value
    (each_weaker (λ r. r < length (shared_trees are.trees)) (λ r. r < 2 ^ 32) (λ r below. omega (arith, few, below)) roots
    (roots_within space controller c.requires.fits kept c.in_ok-kept.ensures keys roots are))

pub returns : goal.returns
returns c =
    let space = space_tree c.args.space.now in
    let controller = controller_tree c.args.controller.now in
    let kept = c.in_ok-kept.kept.items in
    let keys = part_keys c.in_ok-shared.shared.parts.keys in
    let roots = c.in_ok-shared.shared.roots.items in
    let are : AreShared space controller kept keys roots =
    subst (λ ns. AreShared space controller ns keys roots) c.deref.ensures.value c.in_ok-shared.ensures in
    let nodes : map (key_node space kept) keys ≡ map Some (map node_tree c.in_ok-nodes.nodes.items) =
    sym (λ z. map (key_node space (c.deref-2.ensures.value z)) (part_keys (c.as_slice.ensures.keys z))) ∙ c.in_ok-nodes.ensures in
    subst (AreNodesOf controller space (map node_tree c.in_ok-nodes.nodes.items))
    (sym (c.in_ok-states.ensures ∙ c.deref-3.ensures.value))
    (are_nodes space controller c.requires.fits kept c.in_ok-kept.ensures keys roots are (map node_tree c.in_ok-nodes.nodes.items) nodes)
