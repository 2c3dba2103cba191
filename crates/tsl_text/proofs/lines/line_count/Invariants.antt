use Rattle.std.proofs.Common.{◌≡◌, ◌+◌, ◌≤◌, length}
use Rattle.tsl_text.specs.Lines.{lines}
use Rattle.tsl_text.specs.Cursor.{IsCountable}
use Rattle.tsl_text.proofs.lines.line_count.Given as goal

abbrev pub invariant-loop-after : goal.invariant-loop-after
invariant-loop-after l = record {
  count : l.left.number + length (lines l.left.text.now) ≡ 1 + length (lines l.text);
  countable : IsCountable l.left;
  within : l.left.number + length l.left.text.now ≤ 1 + length l.text;
}

abbrev pub decreases-loop-after : goal.decreases-loop-after
decreases-loop-after l = length l.left.text.now
