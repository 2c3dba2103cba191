use Rattle.bounded_encoding.specs.FrameView.{frame_tree}
use Rattle.bounded_encoding.specs.internal.Transitions.{clauses_for}
use Rattle.bounded_encoding.proofs.Adding.{step, stop, passed_on}
use Rattle.bounded_encoding.proofs.transition_clauses.add_each_next.Goals as goal

pub returns-in_err-add_transitions_to-clause-refused : goal.returns-in_err-add_transitions_to-clause-refused
returns-in_err-add_transitions_to-clause-refused c = passed_on _ _ _ c.from_residual.ensures.1
    (λ is. stop _ _ _ _ (clauses_for (frame_tree c.args.frame.now) c.args.transition)
    c.loop-t-test.true c.loop-t.invariant.added (c.in_err-add_transitions_to.ensures.refused is))

pub loop-t-preserved : goal.loop-t-preserved
loop-t-preserved c = record {
  room = c.in_ok-add_transitions_to.ensures.room;
  added = step _ _ _ _ _ (clauses_for (frame_tree c.args.frame.now) c.args.transition)
      c.loop-t-test.true c.loop-t.invariant.added c.in_ok-add_transitions_to.ensures.added;
}
