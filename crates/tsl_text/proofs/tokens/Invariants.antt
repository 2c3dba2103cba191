use Rattle.std.proofs.Common.{◌-◌, length}
use Rattle.tsl_text.proofs.Parts.{TokensBefore}
use Rattle.tsl_text.proofs.tokens.Given as goal

abbrev pub invariant-loop-start : goal.invariant-loop-start
invariant-loop-start l = TokensBefore l.text l.start l.tokens.items

abbrev pub decreases-loop-start : goal.decreases-loop-start
decreases-loop-start l = length l.text - l.start
