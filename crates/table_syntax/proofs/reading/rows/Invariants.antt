use Rattle.std.proofs.Common.{◌≡◌, length}
use Rattle.reader_combinators.specs.Readers.{iterate, push, members}
use Rattle.table_syntax.specs.internal.Reading.{row_member}
use Rattle.table_syntax.specs.View.{text_tokens_view, numbers_view}
use Rattle.table_syntax.proofs.reading.rows.Given as goal

-- what was read so far, and then what the terminals that are left give
abbrev pub invariant-loop-rest : goal.invariant-loop-rest
invariant-loop-rest l =
    iterate (push row_member) (numbers_view l.rows.items) (text_tokens_view l.left.terminals.now)
    ≡ members row_member (text_tokens_view l.fn.xs)

abbrev pub decreases-loop-rest : goal.decreases-loop-rest
decreases-loop-rest l = length l.left.terminals.now
