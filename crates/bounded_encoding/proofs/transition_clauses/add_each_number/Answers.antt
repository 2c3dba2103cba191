use Rattle.std.proofs.Common.{◌∷◌, []}
use Rattle.bounded_encoding.specs.FrameView.{frame_tree}
use Rattle.bounded_encoding.specs.internal.Transitions.{clause_for}
use Rattle.bounded_encoding.proofs.Adding.{step, stop, passed_on}
use Rattle.bounded_encoding.proofs.transition_clauses.add_each_number.Goals as goal

pub returns-in_err-add_transition-clause-refused : goal.returns-in_err-add_transition-clause-refused
returns-in_err-add_transition-clause-refused c = passed_on _ _ _ c.from_residual.ensures.1
    (λ is. stop _ _ _ _ (λ i. clause_for (frame_tree c.args.frame.now) c.args.transition c.args.t i ∷ [])
    c.loop-i-test.true c.loop-i.invariant.added (c.in_err-add_transition.ensures.refused is))

pub loop-i-preserved : goal.loop-i-preserved
loop-i-preserved c = record {
  around = c.in_ok-add_transition.ensures.around;
  added = step _ _ _ _ _ (λ i. clause_for (frame_tree c.args.frame.now) c.args.transition c.args.t i ∷ [])
      c.loop-i-test.true c.loop-i.invariant.added c.in_ok-add_transition.ensures.added;
}
