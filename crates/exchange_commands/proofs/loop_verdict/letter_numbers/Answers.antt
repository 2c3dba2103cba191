use Rattle.std.proofs.Common.{rules, map}
use Rattle.lasso_text.specs.LoopView.{letter_view}
use Rattle.exchange_commands.proofs.LetterCounts.{all_below}
use Rattle.exchange_commands.proofs.loop_verdict.letter_numbers.Goals as goal

pub loop-letter-init : goal.loop-letter-init
loop-letter-init c =
    (search rules, all_below c.args.bits (map letter_view c.args.found.now.letters) c.requires.few_bits c.requires.is_loop.0)
