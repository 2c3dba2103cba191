use Rattle.cobuchi_automata.specs.Edges.{edge_tree}
use Rattle.bounded_encoding.specs.FrameView.{side_of}
use Rattle.bounded_encoding.specs.Sides.{clauses_under}
use Rattle.bounded_encoding.proofs.Adding.{step_at, stop_at, passed_on}
use Rattle.bounded_encoding.proofs.transition_clauses.add_each_row.Goals as goal

pub returns-in_err-add_transitions_under-clause-refused : goal.returns-in_err-add_transitions_under-clause-refused
returns-in_err-add_transitions_under-clause-refused g c = passed_on _ _ _ c.from_residual.ensures.1
    (λ is. stop_at _ _ _ _ _ (clauses_under (side_of c.args.frame.now (g.S.Side.met c.args.side.now) (g.S.Side.base c.args.side.now)) c.args.s (edge_tree c.args.edge))
    c.loop-row-test.true c.loop-row.invariant.added (c.in_err-add_transitions_under.ensures.refused is))

pub loop-row-preserved : goal.loop-row-preserved
loop-row-preserved g c = record {
  room = c.in_ok-add_transitions_under.ensures.room;
  added = step_at _ _ _ _ _ _
      (clauses_under (side_of c.args.frame.now (g.S.Side.met c.args.side.now) (g.S.Side.base c.args.side.now)) c.args.s (edge_tree c.args.edge))
      c.loop-row-test.true c.loop-row.invariant.added c.in_ok-add_transitions_under.ensures.added;
}
