use Rattle.cobuchi_automata.specs.Edges.{edge_tree}
use Rattle.bounded_encoding.specs.FrameView.{side_of}
use Rattle.bounded_encoding.specs.Sides.{clauses_along}
use Rattle.bounded_encoding.proofs.Adding.{step_item, stop_item, passed_on}
use Rattle.bounded_encoding.proofs.transition_clauses.add_each_edge.Goals as goal

pub returns-in_err-add_transitions_along-clause-refused : goal.returns-in_err-add_transitions_along-clause-refused
returns-in_err-add_transitions_along-clause-refused g c = passed_on _ _ _ c.from_residual.ensures.1
    (λ is. stop_item _ _ _ _ _ (λ e. clauses_along (side_of c.args.frame.now (g.S.Side.met c.args.side.now) (g.S.Side.base c.args.side.now)) c.args.s (edge_tree e))
    c.loop-edge-test.true c.edge-item.is c.loop-edge.invariant (c.in_err-add_transitions_along.ensures.refused is))

pub loop-edge-preserved : goal.loop-edge-preserved
loop-edge-preserved g c = step_item _ _ _ _ _ _
    (λ e. clauses_along (side_of c.args.frame.now (g.S.Side.met c.args.side.now) (g.S.Side.base c.args.side.now)) c.args.s (edge_tree e))
    c.loop-edge-test.true c.edge-item.is c.loop-edge.invariant c.in_ok-add_transitions_along.ensures.added
