use Rattle.std.proofs.Common.{arith}
use Rattle.obligations.specs.Numbers.{choice_keys}
use Rattle.obligations.specs.internal.Antichains.{all_marks, marks_of}
use Rattle.obligations.proofs.CaresLemmas.{choices_end}
use Rattle.obligations.proofs.apart.all_marks.Goals as goal

pub returns : goal.returns
returns c = choices_end marks_of c.args.choices.now c.loop-choice.choice-index c.loop-choice.all (all_marks (choice_keys c.args.choices.now))
    (omega (arith, c.loop-choice-test.false)) c.loop-choice.invariant
