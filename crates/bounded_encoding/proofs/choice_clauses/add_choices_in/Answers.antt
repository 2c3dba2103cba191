use Rattle.std.proofs.Common.{arith}
use Rattle.bounded_encoding.specs.Encoding.{choices_under}
use Rattle.bounded_encoding.specs.internal.Asking.{tree_of}
use Rattle.bounded_encoding.proofs.Adding.{step, stop, end, passed_on}
use Rattle.bounded_encoding.proofs.choice_clauses.add_choices_in.Goals as goal

pub returns-in_err-add_choices_under-clause-refused : goal.returns-in_err-add_choices_under-clause-refused
returns-in_err-add_choices_under-clause-refused c = passed_on _ _ _ c.from_residual.ensures.1
    (λ is. stop _ _ _ _ (choices_under (tree_of c.args.question.now) c.args.s)
    (omega (arith, c.loop-v-test.true, c.requires.asked.valuations)) c.loop-v.invariant (c.in_err-add_choices_under.ensures.refused is))

pub loop-v-preserved : goal.loop-v-preserved
loop-v-preserved c = step _ _ _ _ _ (choices_under (tree_of c.args.question.now) c.args.s)
    (omega (arith, c.loop-v-test.true, c.requires.asked.valuations)) c.loop-v.invariant c.in_ok-add_choices_under.ensures.added

pub returns-clause-added : goal.returns-clause-added
returns-clause-added c = end _ _ _ _ (choices_under (tree_of c.args.question.now) c.args.s)
    (omega (arith, c.loop-v-test.false, c.requires.asked.valuations)) c.loop-v.invariant
