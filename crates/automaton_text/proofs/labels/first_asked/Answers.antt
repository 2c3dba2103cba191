use Rattle.std.proofs.Common.{◌∙◌, ap, sym, true, false, add-one}
use Rattle.automaton_text.proofs.Writing.{asked_from, asked_next}
use Rattle.automaton_text.proofs.labels.first_asked.Goals as goal

pub returns-then-has_bit-clause-some : goal.returns-then-has_bit-clause-some
returns-then-has_bit-clause-some c =
    sym c.loop-bit.invariant
    ∙ asked_next c.args.care c.args.bits c.loop-bit.bit true c.loop-bit-test.true (sym c.has_bit.ensures ∙ c.if-has_bit.true)

pub loop-bit-preserved : goal.loop-bit-preserved
loop-bit-preserved c =
    ap (asked_from c.args.care c.args.bits) (add-one c.loop-bit.bit)
    ∙ sym (asked_next c.args.care c.args.bits c.loop-bit.bit false c.loop-bit-test.true (sym c.has_bit.ensures ∙ c.if-has_bit.false))
    ∙ c.loop-bit.invariant
