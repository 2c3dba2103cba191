use Rattle.std.proofs.Common.{◌≡◌, drop}
use Rattle.std.specs.List.{flat_map}
use Rattle.cobuchi_automata.specs.Edges.{edge_tree}
use Rattle.bounded_encoding.specs.FrameView.{side_of}
use Rattle.bounded_encoding.specs.Sides.{clauses_along}
use Rattle.bounded_encoding.specs.Made.{with_clauses}
use Rattle.bounded_encoding.proofs.transition_clauses.add_each_edge.Given as goal

abbrev pub invariant-loop-edge : goal.invariant-loop-edge
invariant-loop-edge g l = with_clauses l.out
    (flat_map (λ e. clauses_along (side_of l.fn.frame (g.S.Side.met l.fn.side) (g.S.Side.base l.fn.side)) l.fn.s (edge_tree e)) (drop l.edge-index l.edges))
    ≡ with_clauses l.fn.out
    (flat_map (λ e. clauses_along (side_of l.fn.frame (g.S.Side.met l.fn.side) (g.S.Side.base l.fn.side)) l.fn.s (edge_tree e)) l.edges)
