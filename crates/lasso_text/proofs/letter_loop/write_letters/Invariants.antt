-- What is written and what is left make the whole.
use Rattle.std.proofs.Common.{◌≡◌, ◌++◌, ◌∷◌, [], drop, map}
use Rattle.tsl_text.specs.Written.{text_of_lines}
use Rattle.lasso_text.specs.LetterText.{letter_text, back_text, loop_text}
use Rattle.lasso_text.specs.LoopView.{letter_view, loop_tree}
use Rattle.lasso_text.proofs.letter_loop.write_letters.Given as goal

abbrev pub invariant-loop-letter : goal.invariant-loop-letter
invariant-loop-letter l =
    l.out.items
    ++ text_of_lines (map letter_text (map letter_view (drop l.letter-index l.letters.letters)) ++ back_text l.letters.back ∷ [])
    ≡ l.fn.out.items ++ loop_text (loop_tree l.letters)
