use Rattle.std.proofs.Common.{◌≡◌, length, map}
use Rattle.reader_combinators.specs.Readers.{iterate, push, members}
use Rattle.spec_syntax.specs.Reading.{declaration}
use Rattle.spec_syntax.specs.SyntaxView.{terminals_view, declaration_syntax}
use Rattle.spec_syntax.proofs.section_reader.declarations.Given as goal

-- the declarations so far, and then those of the terminals that are left
abbrev pub invariant-loop-declarations : goal.invariant-loop-declarations
invariant-loop-declarations l =
    iterate (push (declaration l.levels_left)) (map declaration_syntax l.declarations.items) (terminals_view l.left.terminals.now)
    ≡ members (declaration l.levels_left) (terminals_view l.fn.xs)

abbrev pub decreases-loop-declarations : goal.decreases-loop-declarations
decreases-loop-declarations l = length l.left.terminals.now
