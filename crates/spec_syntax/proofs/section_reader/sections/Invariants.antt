use Rattle.std.proofs.Common.{◌≡◌, length, map}
use Rattle.reader_combinators.specs.Readers.{iterate, push, members}
use Rattle.spec_syntax.specs.Reading.{section}
use Rattle.spec_syntax.specs.SyntaxView.{terminals_view, section_syntax}
use Rattle.spec_syntax.proofs.section_reader.sections.Given as goal

-- the sections so far, and then those of the terminals that are left
abbrev pub invariant-loop-sections : goal.invariant-loop-sections
invariant-loop-sections l =
    iterate (push (section l.levels_left)) (map section_syntax l.sections.items) (terminals_view l.left.terminals.now)
    ≡ members (section l.levels_left) (terminals_view l.fn.xs)

abbrev pub decreases-loop-sections : goal.decreases-loop-sections
decreases-loop-sections l = length l.left.terminals.now
