use Rattle.std.proofs.Common.{◌≡◌, ℕ, ◌+◌, ◌<◌, length, get_or, drop, List, ◌++◌, map, codes, ap, ◌∙◌, append_assoc}
use Rattle.base_library.proofs.Lists.{written_step, left_at}
use Rattle.tsl_text.specs.Written.{text_of_lines}
use Rattle.cobuchi_automata.specs.declared.automaton.Edge.{Edge}
use Rattle.cobuchi_automata.specs.Edges.{edge_tree, edge_trees}
use Rattle.search_text.specs.SearchTexts.{edge_line}
use Rattle.search_text.proofs.put_edges.Goals as goal

edges_left : (edges : List Edge) (i : ℕ) (e : Edge) → i < length edges → e ≡ get_or edges i e →
    text_of_lines (map edge_line (edge_trees (drop i edges))) ≡ (edge_line (edge_tree e) ++ codes "\n")
    ++ text_of_lines (map edge_line (edge_trees (drop (i + 1) edges)))
edges_left edges i e within is = ap (λ (es : List Edge). text_of_lines (map edge_line (edge_trees es))) (left_at edges i e within is)

pub loop-edge-preserved : goal.loop-edge-preserved
loop-edge-preserved c =
    written_step _ _ _ _ _ _ c.loop-edge.invariant
    (edges_left c.args.edges.now c.loop-edge.edge-index c.edge-item.result c.loop-edge-test.true c.edge-item.is)
    (c.in_ok-put_bytes.ensures.ok ∙ ap (λ (xs : List ℕ). xs ++ codes "\n") c.in_ok-put_edge.ensures
    ∙ append_assoc c.loop-edge.out.items (edge_line (edge_tree c.edge-item.result)) (codes "\n"))
