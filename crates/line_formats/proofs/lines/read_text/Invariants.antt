use Rattle.std.proofs.Common.{◌≡◌, length, map}
use Rattle.tsl_text.specs.Lines.{lines_from}
use Rattle.tsl_text.specs.Cursor.{lines_left, IsCountable}
use Rattle.line_formats.specs.Machine.{read_from}
use Rattle.line_formats.specs.internal.LastLines.{taken}
use Rattle.line_formats.proofs.lines.read_text.Given as goal

abbrev pub invariant-loop-line : goal.invariant-loop-line
invariant-loop-line g l = record {
  countable : IsCountable l.left;
  same : read_from g.R.LineReader.step g.R.LineReader.whole (g.R.LineReader.state l.reader) l.left.number
      (map (taken l.fn.last) (lines_left l.left))
      ≡ read_from g.R.LineReader.step g.R.LineReader.whole (g.R.LineReader.state l.fn.reader) 1
      (map (taken l.fn.last) (lines_from 1 l.fn.text));
}

abbrev pub decreases-loop-line : goal.decreases-loop-line
decreases-loop-line g l = length l.left.text.now
