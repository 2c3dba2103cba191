use Rattle.std.proofs.Common.{◌≡◌, length}
use Rattle.reader_combinators.specs.Readers.{iterate, push, members}
use Rattle.table_syntax.specs.internal.Reading.{column_member}
use Rattle.table_syntax.specs.View.{text_tokens_view}
use Rattle.table_syntax.proofs.reading.columns.Given as goal

-- what was read so far, and then what the terminals that are left give
abbrev pub invariant-loop-rest : goal.invariant-loop-rest
invariant-loop-rest l =
    iterate (push column_member) (text_tokens_view l.columns.items) (text_tokens_view l.left.terminals.now)
    ≡ members column_member (text_tokens_view l.fn.xs)

abbrev pub decreases-loop-rest : goal.decreases-loop-rest
decreases-loop-rest l = length l.left.terminals.now
