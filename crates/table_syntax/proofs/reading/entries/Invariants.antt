use Rattle.std.proofs.Common.{◌≡◌, length}
use Rattle.reader_combinators.specs.Readers.{iterate, push, members}
use Rattle.table_syntax.specs.internal.Reading.{entry_member}
use Rattle.table_syntax.specs.View.{text_tokens_view, entries_view}
use Rattle.table_syntax.proofs.reading.entries.Given as goal

-- what was read so far, and then what the terminals that are left give
abbrev pub invariant-loop-kind : goal.invariant-loop-kind
invariant-loop-kind l =
    iterate (push entry_member) (entries_view l.entries.items) (text_tokens_view l.left.terminals.now)
    ≡ members entry_member (text_tokens_view l.fn.xs)

abbrev pub decreases-loop-kind : goal.decreases-loop-kind
decreases-loop-kind l = length l.left.terminals.now
