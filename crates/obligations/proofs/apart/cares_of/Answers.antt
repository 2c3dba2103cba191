use Rattle.std.proofs.Common.{arith}
use Rattle.obligations.specs.Numbers.{choice_keys}
use Rattle.obligations.specs.internal.Antichains.{cares}
use Rattle.obligations.proofs.CaresLemmas.{choices_end}
use Rattle.obligations.proofs.apart.cares_of.Goals as goal

pub returns : goal.returns
returns c = choices_end (λ x. x.care) c.args.choices.now c.loop-choice.choice-index c.loop-choice.all (cares (choice_keys c.args.choices.now))
    (omega (arith, c.loop-choice-test.false)) c.loop-choice.invariant
