use Rattle.std.proofs.Common.{◌≡◌}
use Rattle.bounded_encoding.specs.ClauseLists.{each}
use Rattle.bounded_encoding.specs.FrameView.{side_of}
use Rattle.bounded_encoding.specs.Sides.{clauses_in, clauses_of_edges}
use Rattle.bounded_encoding.specs.Made.{with_clauses}
use Rattle.bounded_encoding.proofs.transition_clauses.add_transitions.Given as goal

abbrev pub invariant-loop-s : goal.invariant-loop-s
invariant-loop-s g l = with_clauses l.out
    (each l.s l.fn.frame.states (clauses_in (side_of l.fn.frame (g.S.Side.met l.fn.side) (g.S.Side.base l.fn.side))))
    ≡ with_clauses l.fn.out (clauses_of_edges (side_of l.fn.frame (g.S.Side.met l.fn.side) (g.S.Side.base l.fn.side)))
