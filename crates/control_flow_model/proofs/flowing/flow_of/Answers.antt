use Rattle.std.proofs.Common.{◌∙◌, ◌++◌, map, sym, ap, subst}
use Rattle.std.proofs.lemmas.List.{length-map}
use Rattle.tsl_terms.specs.WindowTree.{window_tree}
use Rattle.program_tree.specs.Fits.{StatesFit}
use Rattle.program_tree.specs.NodeTree.{node_tree}
use Rattle.letter_space.specs.SpaceView.{space_tree}
use Rattle.machines.specs.MachineView.{controller_tree}
use Rattle.control_flow_model.proofs.FitLemmas.{nodes_branch, nodes_assign, nodes_begin, carried, reads_carried, windows_carried}
use Rattle.control_flow_model.proofs.flowing.flow_of.Goals as goal

pub invariant_of-result : goal.invariant_of-result
invariant_of-result c =
    let controller = controller_tree c.args.controller.now in
    let space = space_tree c.args.space.now in
    let inputs = c.in_ok-copied.field-0 in
    let cells = c.in_ok-copied-2.field-0 in
    let outputs = c.in_ok-copied-3.field-0 in
    let windows = map window_tree c.from_vec.result in
    let nodes = map node_tree c.from_vec-2.result in
    let states = c.from_vec-3.result in
    let are = carried controller space (map node_tree c.in_ok-flow.flow.nodes.items) nodes c.in_ok-flow.flow.states.items states
    (ap (map node_tree) c.from_vec-2.ensures) c.from_vec-3.ensures c.in_ok-flow.ensures in
    let reads = reads_carried space c.args.signals.now.inputs inputs c.args.signals.now.cells cells c.in_ok-copied.ensures
    c.in_ok-copied-2.ensures c.requires.reads in
    record {
      signals_distinct = rw (c.in_ok-copied.ensures, c.in_ok-copied-2.ensures, c.in_ok-copied-3.ensures) c.requires.signals_distinct;
      branches_fit = nodes_branch controller space inputs cells outputs windows nodes states are reads;
      assignments_fit =
          nodes_assign controller space inputs cells outputs windows nodes states are reads
          (c.requires.controlled ∙ sym (λ z. c.in_ok-copied-2.ensures z ++ c.in_ok-copied-3.ensures z));
      states_fit =
          subst (StatesFit states) (length-map c.from_vec-2.result node_tree)
          (nodes_begin controller space inputs cells outputs windows nodes states are reads);
      windows_fit =
          windows_carried c.args.signals.now.inputs inputs c.args.signals.now.cells cells (map window_tree c.args.windows.items) windows
          c.in_ok-copied.ensures c.in_ok-copied-2.ensures (ap (map window_tree) c.from_vec.ensures) c.requires.windows_fit;
    }
