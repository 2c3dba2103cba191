use Rattle.std.proofs.Common.{◌≡◌, ◌+◌, ◌*◌, length}
use Rattle.reader_combinators.specs.Readers.{iterate}
use Rattle.spec_syntax.specs.Reading.{lower, argument, fresh}
use Rattle.spec_syntax.specs.SyntaxView.{terminals_view}
use Rattle.spec_syntax.specs.internal.InnerView.{arguments_view}
use Rattle.spec_syntax.proofs.terms.+read.Given as goal

-- each function calls those after it in this list at its number of levels, and those before it at a smaller one

abbrev pub decreases-term_then_bracket : goal.decreases-term_then_bracket
decreases-term_then_bracket l = l.levels_left * 16 + 9

abbrev pub decreases-term_with : goal.decreases-term_with
decreases-term_with l = l.levels_left * 16 + 8

abbrev pub decreases-after_name : goal.decreases-after_name
decreases-after_name l = l.levels_left * 16 + 7

abbrev pub decreases-argument : goal.decreases-argument
decreases-argument l = l.levels_left * 16 + 6

abbrev pub decreases-first_argument : goal.decreases-first_argument
decreases-first_argument l = l.levels_left * 16 + 5

abbrev pub decreases-argument_after_name : goal.decreases-argument_after_name
decreases-argument_after_name l = l.levels_left * 16 + 4

abbrev pub decreases-argument_after_term : goal.decreases-argument_after_term
decreases-argument_after_term l = l.levels_left * 16 + 3

abbrev pub decreases-opened : goal.decreases-opened
decreases-opened l = l.levels_left * 16 + 2

abbrev pub decreases-bracketed_term : goal.decreases-bracketed_term
decreases-bracketed_term l = l.levels_left * 16 + 1

-- the arguments so far, and then those of the terminals that are left
abbrev pub invariant-after_name-loop-arguments : goal.invariant-after_name-loop-arguments
invariant-after_name-loop-arguments l =
    iterate (argument (lower l.levels_left)) (arguments_view l.arguments) (terminals_view l.left.terminals.now)
    ≡ iterate (argument (lower l.levels_left)) fresh (terminals_view l.fn.xs)

abbrev pub decreases-after_name-loop-arguments : goal.decreases-after_name-loop-arguments
decreases-after_name-loop-arguments l = length l.left.terminals.now
