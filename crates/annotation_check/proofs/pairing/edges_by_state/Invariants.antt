use Rattle.std.proofs.Common.{◌≡◌, map, take}
use Rattle.base_library.specs.Numbers.{numbers_from}
use Rattle.cobuchi_automata.specs.Edges.{edge_trees}
use Rattle.annotation_check.specs.Annotations.{edges_from}
use Rattle.annotation_check.specs.EdgeLists.{edge_lists}
use Rattle.annotation_check.proofs.pairing.edges_by_state.Given as goal

abbrev pub invariant-loop-edge : goal.invariant-loop-edge
invariant-loop-edge l =
    edge_lists l.table.items ≡ map (edges_from (take l.edge-index (edge_trees l.automaton.edges))) (numbers_from 0 l.automaton.states)
