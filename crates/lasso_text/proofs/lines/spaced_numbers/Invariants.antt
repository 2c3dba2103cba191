-- The numbers so far, and then those that are left.
use Rattle.std.proofs.Common.{◌≡◌, length}
use Rattle.lasso_text.specs.LetterText.{numbers, line_value}
use Rattle.lasso_text.proofs.LetterLines.{with_front}
use Rattle.lasso_text.proofs.lines.spaced_numbers.Given as goal

abbrev pub invariant-loop-rest : goal.invariant-loop-rest
invariant-loop-rest l = with_front l.numbers.items (line_value numbers l.rest) ≡ line_value numbers l.bytes

abbrev pub decreases-loop-rest : goal.decreases-loop-rest
decreases-loop-rest l = length l.rest
