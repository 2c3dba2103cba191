use Rattle.std.proofs.Common.{◌∙◌, ◌+◌, refl, sym, arith}
use Rattle.automaton_text.proofs.BitLines.{one_more, none_more, all_read}
use Rattle.automaton_text.proofs.lines.quoted_count.Goals as goal

pub returns-in_default : goal.returns-in_default
returns-in_default c =
    none_more c.loop-rest.count c.loop-rest.rest.now _ (sym c.is_empty.ensures ∙ c.loop-rest-test.true) c.in_default.ensures.none
    c.loop-rest.invariant.0

pub loop-rest-preserved : goal.loop-rest-preserved
loop-rest-preserved c = (
  one_more c.loop-rest.count (c.loop-rest.count + 1) c.in-Some.field-0-0.now c.loop-rest.rest.now c.in-Some.after.now _ refl
      c.in-Some.ensures.some c.loop-rest.invariant.0,
  let shorter = c.in-Some.ensures.shorter in let so_far = c.loop-rest.invariant.1 in omega (arith, shorter, so_far),
)

pub returns : goal.returns
returns c =
    all_read c.loop-rest.count c.loop-rest.rest.now _ (sym c.is_empty.ensures ∙ c.loop-rest-test.false) c.loop-rest.invariant.0
