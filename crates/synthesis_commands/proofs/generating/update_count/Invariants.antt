use Rattle.std.proofs.Common.{◌≡◌, ◌+◌}
use Rattle.synthesis_commands.proofs.ChoiceCounts.{choices_left}
use Rattle.synthesis_commands.proofs.generating.update_count.Given as goal

-- the count so far makes, with what is left, the whole count
abbrev pub invariant-loop-controlled : goal.invariant-loop-controlled
invariant-loop-controlled l = l.count + choices_left l.controlled-items l.controlled-index ≡ choices_left l.controlled-items 0
