use Rattle.std.proofs.Common.{◌≡◌, [], length, map}
use Rattle.reader_combinators.specs.Readers.{iterate}
use Rattle.spec_syntax.specs.Reading.{item, open_items}
use Rattle.spec_syntax.specs.SyntaxView.{terminals_view, formula_syntax}
use Rattle.spec_syntax.proofs.section_reader.formulas.Given as goal

-- the formulas so far, and then those of the terminals that are left
abbrev pub invariant-loop-formulas : goal.invariant-loop-formulas
invariant-loop-formulas l =
    iterate (item l.levels_left) (open_items (map formula_syntax l.formulas.items)) (terminals_view l.left.terminals.now)
    ≡ iterate (item l.levels_left) (open_items []) (terminals_view l.fn.xs)

abbrev pub decreases-loop-formulas : goal.decreases-loop-formulas
decreases-loop-formulas l = length l.left.terminals.now
