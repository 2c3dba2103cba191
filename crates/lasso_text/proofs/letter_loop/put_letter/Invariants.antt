-- What is written and what is left make the whole.
use Rattle.std.proofs.Common.{◌≡◌, ◌++◌, drop}
use Rattle.lasso_text.specs.LetterText.{letter_text, numbers, line_text, as_members}
use Rattle.lasso_text.specs.LoopView.{letter_view}
use Rattle.lasso_text.proofs.letter_loop.put_letter.Given as goal

abbrev pub invariant-loop-number : goal.invariant-loop-number
invariant-loop-number l =
    l.out.items ++ line_text numbers (as_members (drop l.number-index l.letter.propositions), tt)
    ≡ l.fn.out.items ++ letter_text (letter_view l.letter)
