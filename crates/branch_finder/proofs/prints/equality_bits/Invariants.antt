use Rattle.letter_space.specs.SpaceView.{space_tree}
use Rattle.branch_finder.proofs.PrintLemmas.{AreBitsUpTo}
use Rattle.branch_finder.proofs.prints.equality_bits.Given as goal

-- the bits of those gone through
abbrev pub invariant-loop-bit : goal.invariant-loop-bit
invariant-loop-bit l = AreBitsUpTo (space_tree l.space).predicates l.equality l.bit l.bits
