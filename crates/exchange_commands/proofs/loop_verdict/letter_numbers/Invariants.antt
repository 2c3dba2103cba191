use Rattle.std.proofs.Common.{◌≡◌, ◌++◌, drop, map, true}
use Rattle.std.specs.Prelude.{nat_lt}
use Rattle.std.specs.List.{list_all}
use Rattle.lasso_text.specs.LoopView.{letter_view}
use Rattle.exchange_commands.specs.Letters.{letters_of}
use Rattle.exchange_commands.proofs.loop_verdict.letter_numbers.Given as goal

abbrev pub invariant-loop-letter : goal.invariant-loop-letter
invariant-loop-letter l =
    (l.letters.items ++ letters_of (map letter_view (drop l.letter-index l.found.letters)) ≡ letters_of (map letter_view l.found.letters))
    × (list_all (λ ns. list_all (λ n. nat_lt n 64) ns) (map letter_view (drop l.letter-index l.found.letters)) ≡ true)
