use Rattle.std.proofs.Common.{◌≡◌, ◌≤◌, length, All}
use Rattle.tsl_text.specs.Cursor.{lines_left, IsCountable}
use Rattle.refutation_check.specs.LogText.{log_answer}
use Rattle.refutation_check.specs.internal.Reading.{log_among}
use Rattle.refutation_check.proofs.lrat.read_lrat.Given as goal

abbrev pub invariant-loop-line : goal.invariant-loop-line
invariant-loop-line l = record {
  same : log_among l.steps.items (lines_left l.left) ≡ log_answer l.text;
  few : All (λ step. length step.hints ≤ length l.text) l.steps.items;
  countable : IsCountable l.left;
  within : length l.left.text.now ≤ length l.text;
}

abbrev pub decreases-loop-line : goal.decreases-loop-line
decreases-loop-line l = length l.left.text.now
