use Rattle.std.proofs.Common.{◌≡◌, length}
use Rattle.tsl_text.specs.Lines.{words}
use Rattle.refutation_check.specs.LogText.{are_deleted}
use Rattle.refutation_check.specs.internal.Reading.{end_deleted}
use Rattle.refutation_check.proofs.lrat.are_deleted.Given as goal

abbrev pub invariant-loop-word : goal.invariant-loop-word
invariant-loop-word l = end_deleted l.ended (words l.rest) ≡ are_deleted (words l.line)

abbrev pub decreases-loop-word : goal.decreases-loop-word
decreases-loop-word l = length l.rest
