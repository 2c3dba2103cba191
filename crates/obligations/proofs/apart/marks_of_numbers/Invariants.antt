use Rattle.std.proofs.Common.{◌≡◌, drop, bit_or}
use Rattle.obligations.specs.internal.Antichains.{gathered, mark}
use Rattle.obligations.proofs.apart.marks_of_numbers.Given as goal

-- the bits of the numbers gone through, and those of the ones that are left
abbrev pub invariant-loop-number : goal.invariant-loop-number
invariant-loop-number l = bit_or l.all (gathered mark (drop l.number-index l.numbers)) ≡ gathered mark l.numbers
