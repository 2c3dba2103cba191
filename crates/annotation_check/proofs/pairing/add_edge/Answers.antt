use Rattle.std.proofs.Common.{◌∙◌, ap}
use Rattle.std.proofs.lemmas.List.{map_push}
use Rattle.cobuchi_automata.specs.Edges.{edge_tree, edge_trees}
use Rattle.annotation_check.proofs.ListedByState.{image_added}
use Rattle.annotation_check.proofs.pairing.add_edge.Goals as goal

pub returns : goal.returns
returns c =
    image_added (λ es. edge_trees es.items) c.args.table.now.items c.args.edge.from c.index_mut.result.now c.push.new.self
    (edge_tree c.args.edge) c.requires c.index_mut.ensures.value
    (ap edge_trees c.in_ok-push.ensures.items ∙ map_push edge_tree c.index_mut.result.now.items c.args.edge)
