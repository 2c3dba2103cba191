use Rattle.std.proofs.Common.{◌≡◌, drop, true}
use Rattle.std.specs.Prelude.{nat_lt}
use Rattle.std.specs.List.{list_all}
use Rattle.exchange_commands.specs.Letters.{with_bits, letter_of}
use Rattle.exchange_commands.proofs.loop_verdict.letter_number.Given as goal

abbrev pub invariant-loop-proposition : goal.invariant-loop-proposition
invariant-loop-proposition l =
    (with_bits l.number (drop l.proposition-index l.letter.propositions) ≡ letter_of l.letter.propositions)
    × (list_all (λ n. nat_lt n 64) (drop l.proposition-index l.letter.propositions) ≡ true)
