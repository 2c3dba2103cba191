use Rattle.std.proofs.Common.{take, arith}
use Rattle.cobuchi_automata.specs.Edges.{edge_trees}
use Rattle.annotation_check.specs.Annotations.{edges_from}
use Rattle.annotation_check.specs.EdgeLists.{edge_lists}
use Rattle.annotation_check.proofs.ListedByState.{listed_length, leaves_below, edges_more}
use Rattle.annotation_check.proofs.pairing.edges_by_state.Goals as goal

pub add_edge-requires : goal.add_edge-requires
add_edge-requires c =
    let below = leaves_below c.as_slice-edge-items.result.now c.args.automaton.now.edges c.as_slice-edge-items.ensures
    c.loop-edge.edge-index
    c.edge-item.result c.args.automaton.now.states (omega arith) c.edge-item.is c.args.automaton.now.between in
    let many = listed_length (λ es. edge_trees es.items) (edges_from (take c.loop-edge.edge-index (edge_trees c.args.automaton.now.edges)))
    c.loop-edge.table.items c.args.automaton.now.states c.loop-edge.invariant in
    omega (arith, below, many)

pub loop-edge-preserved : goal.loop-edge-preserved
loop-edge-preserved c =
    edges_more c.as_slice-edge-items.result.now c.args.automaton.now.edges c.as_slice-edge-items.ensures c.loop-edge.edge-index
    c.edge-item.result c.args.automaton.now.states (omega arith) c.edge-item.is c.args.automaton.now.between
    (edge_lists c.loop-edge.table.items) (edge_lists c.add_edge.new.table.items) c.loop-edge.invariant c.in_ok-add_edge.ensures
