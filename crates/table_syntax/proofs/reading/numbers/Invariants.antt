use Rattle.std.proofs.Common.{◌≡◌, ◌≤◌, length}
use Rattle.reader_combinators.specs.Readers.{iterate, push, members}
use Rattle.table_syntax.specs.internal.Reading.{number_member}
use Rattle.table_syntax.specs.View.{text_tokens_view}
use Rattle.table_syntax.proofs.reading.numbers.Given as goal

-- the numbers so far, and then those of the terminals that are left
abbrev pub invariant-loop-number : goal.invariant-loop-number
invariant-loop-number l = record {
  rest_is : iterate (push number_member) l.numbers.items (text_tokens_view l.left.terminals.now)
      ≡ members number_member (text_tokens_view l.fn.xs);
  shorter : length l.left.terminals.now ≤ length l.fn.xs;
}

abbrev pub decreases-loop-number : goal.decreases-loop-number
decreases-loop-number l = length l.left.terminals.now
