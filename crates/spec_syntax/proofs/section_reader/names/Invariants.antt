use Rattle.std.proofs.Common.{◌≡◌, length, map}
use Rattle.reader_combinators.specs.Readers.{iterate, push, members}
use Rattle.spec_syntax.specs.Reading.{name_at}
use Rattle.spec_syntax.specs.SyntaxView.{terminals_view}
use Rattle.spec_syntax.specs.internal.InnerView.{name_text}
use Rattle.spec_syntax.proofs.section_reader.names.Given as goal

-- the names so far, and then those of the terminals that are left
abbrev pub invariant-loop-name : goal.invariant-loop-name
invariant-loop-name l =
    iterate (push name_at) (map name_text l.names.items) (terminals_view l.left.terminals.now) ≡ members name_at (terminals_view l.fn.xs)

abbrev pub decreases-loop-name : goal.decreases-loop-name
decreases-loop-name l = length l.left.terminals.now
