use Rattle.bounded_encoding.specs.Encoding.{choices_in}
use Rattle.bounded_encoding.specs.internal.Asking.{tree_of}
use Rattle.bounded_encoding.proofs.Adding.{step, stop, passed_on}
use Rattle.bounded_encoding.proofs.choice_clauses.add_choices.Goals as goal

pub returns-in_err-add_choices_in-clause-refused : goal.returns-in_err-add_choices_in-clause-refused
returns-in_err-add_choices_in-clause-refused c = passed_on _ _ _ c.from_residual.ensures.1
    (λ is. stop _ _ _ _ (choices_in (tree_of c.args.question.now)) c.loop-s-test.true c.loop-s.invariant
    (c.in_err-add_choices_in.ensures.refused is))

pub loop-s-preserved : goal.loop-s-preserved
loop-s-preserved c = step _ _ _ _ _
    (choices_in (tree_of c.args.question.now)) c.loop-s-test.true c.loop-s.invariant c.in_ok-add_choices_in.ensures.added
