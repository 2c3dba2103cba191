-- A bit of each word so far.
use Rattle.std.proofs.Common.{◌≡◌, map, take}
use Rattle.std.specs.Int.{bit_at}
use Rattle.controller_circuits.proofs.halving.bits_of.Given as goal

abbrev pub invariant-loop-word : goal.invariant-loop-word
invariant-loop-word l = l.bits.items ≡ map (λ w. bit_at w l.bit) (take l.word-index l.words)
