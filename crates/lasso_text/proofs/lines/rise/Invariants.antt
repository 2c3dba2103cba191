use Rattle.std.proofs.Common.{◌≡◌, drop}
use Rattle.lasso_text.specs.LetterText.{rise}
use Rattle.lasso_text.proofs.lines.rise.Given as goal

abbrev pub invariant-loop-number : goal.invariant-loop-number
invariant-loop-number l = rise l.bits l.least (drop l.number-index l.numbers) ≡ rise l.bits 0 l.numbers
