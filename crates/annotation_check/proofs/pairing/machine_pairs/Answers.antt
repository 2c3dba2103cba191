use Rattle.std.proofs.Common.{arith}
use Rattle.cobuchi_automata.specs.Edges.{edge_trees}
use Rattle.annotation_check.specs.Annotations.{edges_from}
use Rattle.annotation_check.specs.EdgeLists.{edge_lists}
use Rattle.annotation_check.specs.internal.Pairs.{moves_in}
use Rattle.annotation_check.proofs.ListedByState.{listed_length, edges_are_listed, listed_edges_stay}
use Rattle.annotation_check.proofs.pairing.machine_pairs.Goals as goal

pub returns : goal.returns
returns c = λ i. record {
  moves = moves_in c.args.moves.items;
  edges = λ q. edges_are_listed c.args.automaton.now.states c.args.automaton.now.edges c.args.automaton.now.between
      (edge_lists c.in_ok-edges.edges.items) c.in_ok-edges.ensures q i;
  machine_states = c.args.states;
  automaton_states = c.args.automaton.now.states;
  bound = c.args.bound;
}

pub invariant_of-result-clause-has_edges : goal.invariant_of-result-clause-has_edges
invariant_of-result-clause-has_edges c =
    let many = listed_length (λ es. edge_trees es.items) (edges_from (edge_trees c.args.automaton.now.edges)) c.in_ok-edges.edges.items
    c.args.automaton.now.states c.in_ok-edges.ensures in
    omega (arith, many, c.in_ok-edges.edges.ok.0)

pub invariant_of-result-clause-are_pairs : goal.invariant_of-result-clause-are_pairs
invariant_of-result-clause-are_pairs c = record {
  machine_starts = c.requires.starts;
  automaton_starts = (let h = c.args.automaton.now.starts in omega (arith, h));
  moves_stay = c.requires.stay;
  edges_stay =
      listed_edges_stay c.args.automaton.now.states c.args.automaton.now.edges c.args.automaton.now.between
      (edge_lists c.in_ok-edges.edges.items) c.in_ok-edges.ensures;
}
