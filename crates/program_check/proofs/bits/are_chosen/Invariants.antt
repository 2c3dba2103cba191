-- The signals and terms from here on decide for all.
use Rattle.std.proofs.Common.{◌≡◌}
use Rattle.program_check.proofs.ChosenTerms.{chosen_from}
use Rattle.program_check.proofs.bits.are_chosen.Given as goal

abbrev pub invariant-loop-place : goal.invariant-loop-place
invariant-loop-place l = chosen_from l.controlled-items l.terms l.place ≡ chosen_from l.controlled-items l.terms 0
