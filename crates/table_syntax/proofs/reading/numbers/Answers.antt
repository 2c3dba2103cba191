use Rattle.std.proofs.Common.{sym, ◌∙◌, arith}
use Rattle.table_syntax.specs.internal.Reading.{number_member, numbers}
use Rattle.table_syntax.specs.View.{text_tokens_view}
use Rattle.table_syntax.proofs.Exactness.{numbers_shrink}
use Rattle.reader_combinators.proofs.MemberLoops.{member_more, members_end}
use Rattle.table_syntax.proofs.reading.numbers.Goals as goal

pub loop-number-preserved : goal.loop-number-preserved
loop-number-preserved c = record {
  rest_is =
      rw c.in_ok-push.ensures.items
      (member_more number_member numbers_shrink (text_tokens_view c.loop-number.left.terminals.now) (text_tokens_view c.in-Some.rest.now)
      c.loop-number.numbers.items c.in-Some.number c.in-Some.ensures.some)
      ∙ c.loop-number.invariant.rest_is;
  shorter = omega (arith, c.loop-number.invariant.shorter, c.in-Some.ensures.shorter);
}

pub returns-clause-ok : goal.returns-clause-ok
unfolding numbers
returns-clause-ok c =
    sym c.loop-number.invariant.rest_is
    ∙ members_end number_member numbers_shrink (text_tokens_view c.loop-number.left.terminals.now) c.loop-number.numbers.items
    (c.in_default.ensures.none)
