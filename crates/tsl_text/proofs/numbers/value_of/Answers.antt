use Rattle.std.proofs.Common.{arith}
use Rattle.tsl_text.proofs.DigitLaws.{few_digits}
use Rattle.tsl_text.proofs.numbers.value_of.Goals as goal

pub overflow_mul-value : goal.overflow_mul-value
overflow_mul-value c =
    omega (arith, few_digits c.loop-digit.value c.loop-digit.digit-index 17 c.loop-digit.invariant.bound (omega (arith, c.requires.few)))

pub overflow_add-value : goal.overflow_add-value
overflow_add-value c =
    omega (arith, few_digits c.loop-digit.value c.loop-digit.digit-index 17 c.loop-digit.invariant.bound (omega (arith, c.requires.few)))

pub returns-clause-bound : goal.returns-clause-bound
returns-clause-bound c =
    few_digits c.loop-digit.value c.loop-digit.digit-index 18 c.loop-digit.invariant.bound (omega (arith, c.requires.few))
