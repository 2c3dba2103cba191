use Rattle.std.proofs.Common.{◌≡◌, ◌+◌, drop, length}
use Rattle.std.specs.List.{flat_map}
use Rattle.cobuchi_automata.specs.Edges.{edge_tree}
use Rattle.bounded_encoding.specs.FrameView.{side_of}
use Rattle.bounded_encoding.specs.Sides.{clauses_under}
use Rattle.bounded_encoding.specs.Made.{with_clauses}
use Rattle.bounded_encoding.proofs.transition_clauses.add_each_row.Given as goal

abbrev pub invariant-loop-row : goal.invariant-loop-row
invariant-loop-row g l = record {
  room : length l.literals ≡ length l.fn.asked + 3;
  added : with_clauses l.out
      (flat_map (clauses_under (side_of l.fn.frame (g.S.Side.met l.fn.side) (g.S.Side.base l.fn.side)) l.fn.s (edge_tree l.fn.edge)) (drop l.row-index l.met))
      ≡ with_clauses l.fn.out
      (flat_map (clauses_under (side_of l.fn.frame (g.S.Side.met l.fn.side) (g.S.Side.base l.fn.side)) l.fn.s (edge_tree l.fn.edge)) l.met);
}
