use Rattle.std.proofs.Common.{ℕ, ◌+◌, ◌-◌, ◌≤◌, length, take}
use Rattle.tsl_text.specs.Places.{IsLineStart, IsBetweenFeeds}
use Rattle.tsl_text.proofs.places.line_at.Given as goal

-- a line begins here, and none that equals it before
abbrev pub invariant-loop-start : goal.invariant-loop-start
invariant-loop-start l = record {
  begins : l.start ≤ length l.text → IsLineStart (take l.start l.text);
  later : (at : ℕ) → IsBetweenFeeds l.text l.line at → l.start ≤ at;
  within : l.start ≤ length l.text + 1;
}

abbrev pub decreases-loop-start : goal.decreases-loop-start
decreases-loop-start l = length l.text + 1 - l.start
