use Rattle.std.proofs.Common.{◌∙◌, [], ap}
use Rattle.cobuchi_automata.specs.Edges.{edge_trees}
use Rattle.annotation_check.specs.Annotations.{edges_from}
use Rattle.annotation_check.specs.EdgeLists.{edge_lists}
use Rattle.annotation_check.proofs.ListedByState.{listed_more}
use Rattle.annotation_check.proofs.pairing.empty_lists.Goals as goal

pub loop-state-preserved : goal.loop-state-preserved
loop-state-preserved c =
    ap edge_lists c.in_ok-push.ensures.items
    ∙ listed_more (λ es. edge_trees es.items) (edges_from []) c.loop-state.table.items c.new.result c.loop-state._state
    (ap edge_trees c.new.ensures.items) c.loop-state.invariant
