use Rattle.std.proofs.Common.{sym, ◌∙◌, arith}
use Rattle.tsl_text.proofs.DigitLaws.{few_digits}
use Rattle.cnf_reader.proofs.WalkLemmas.{digits_are_word}
use Rattle.cnf_reader.proofs.walk.plain_digits.Goals as goal

pub overflow_mul-value : goal.overflow_mul-value
overflow_mul-value c = omega (arith, few_digits c.loop-len.value c.loop-len.len 17 c.loop-len.invariant.small (omega arith))

pub overflow_add-value : goal.overflow_add-value
overflow_add-value c = omega (arith, few_digits c.loop-len.value c.loop-len.len 17 c.loop-len.invariant.small (omega arith))

pub returns-then-is_blank-clause-len : goal.returns-then-is_blank-clause-len
returns-then-is_blank-clause-len c =
    digits_are_word c.args.text.now c.loop-len.len c.loop-len.invariant.within c.loop-len.invariant.digits
    (sym c.is_blank.ensures ∙ c.if-is_blank.true)

pub returns-then-is_blank-clause-small : goal.returns-then-is_blank-clause-small
returns-then-is_blank-clause-small c = few_digits c.loop-len.value c.loop-len.len 18 c.loop-len.invariant.small c.loop-len.invariant.few
