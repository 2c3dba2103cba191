use Rattle.cobuchi_automata.specs.Edges.{edge_tree}
use Rattle.cobuchi_automata.proofs.StateLemmas.{inserted, stored, same_edge, edge_itself, edge_is}
use Rattle.cobuchi_automata.proofs.states.insert_edge.Goals as goal

pub returns : goal.returns
returns c =
    inserted edge_tree same_edge edge_itself c.args.edge c.args.edges.now.keys c.insert_full.new.self.keys c.in_ok-insert_full.field-0.0
    c.in_ok-insert_full.ensures.keys
    (stored edge_tree same_edge edge_itself edge_is c.args.edge c.insert_full.new.self.keys c.in_ok-insert_full.field-0.0
    c.in_ok-insert_full.ensures.stored)
