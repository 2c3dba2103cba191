use Rattle.letter_space.specs.ControlledView.{controlled_tree}
use Rattle.bounded_encoding.specs.Encoding.{signal_clauses}
use Rattle.bounded_encoding.specs.internal.Asking.{tree_of}
use Rattle.bounded_encoding.proofs.Adding.{step_item, stop_item, passed_on}
use Rattle.bounded_encoding.proofs.choice_clauses.add_signals.Goals as goal

pub returns-in_err-add_signal-clause-refused : goal.returns-in_err-add_signal-clause-refused
returns-in_err-add_signal-clause-refused c = passed_on _ _ _ c.from_residual.ensures.1
    (λ is. stop_item _ _ _ _ _ (λ g. signal_clauses (tree_of c.args.question.now) c.args.s c.args.v (controlled_tree g))
    c.loop-signal-test.true c.signal-item.is c.loop-signal.invariant (c.in_err-add_signal.ensures.refused is))

pub loop-signal-preserved : goal.loop-signal-preserved
loop-signal-preserved c = step_item _ _ _ _ _ _ (λ g. signal_clauses (tree_of c.args.question.now) c.args.s c.args.v (controlled_tree g))
    c.loop-signal-test.true c.signal-item.is c.loop-signal.invariant
    c.in_ok-add_signal.ensures.added
