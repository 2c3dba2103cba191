use Rattle.bounded_encoding.specs.FrameView.{side_of}
use Rattle.bounded_encoding.specs.Sides.{clauses_in}
use Rattle.bounded_encoding.proofs.Adding.{step, stop, passed_on}
use Rattle.bounded_encoding.proofs.transition_clauses.add_transitions.Goals as goal

pub returns-in_err-add_transitions_in-clause-refused : goal.returns-in_err-add_transitions_in-clause-refused
returns-in_err-add_transitions_in-clause-refused g c = passed_on _ _ _ c.from_residual.ensures.1
    (λ is. stop _ _ _ _ (clauses_in (side_of c.args.frame.now (g.S.Side.met c.args.side.now) (g.S.Side.base c.args.side.now)))
    c.loop-s-test.true c.loop-s.invariant (c.in_err-add_transitions_in.ensures.refused is))

pub loop-s-preserved : goal.loop-s-preserved
loop-s-preserved g c = step _ _ _ _ _ (clauses_in (side_of c.args.frame.now (g.S.Side.met c.args.side.now) (g.S.Side.base c.args.side.now)))
    c.loop-s-test.true c.loop-s.invariant c.in_ok-add_transitions_in.ensures.added
