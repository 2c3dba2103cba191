use Rattle.std.proofs.Common.{◌≡◌, ◌≤◌, ◌-◌, length, drop}
use Rattle.tsl_text.specs.internal.Front.{after_comment}
use Rattle.tsl_text.proofs.front.closing_len.Given as goal

-- what is left to find is what was to be found at first, and each open comment took two bytes
abbrev pub invariant-loop-at : goal.invariant-loop-at
invariant-loop-at l = record {
  same : after_comment l.depth (drop l.at l.text) ≡ after_comment 0 l.text;
  inside : l.at ≤ length l.text;
  deep : l.depth ≤ l.at;
}

abbrev pub decreases-loop-at : goal.decreases-loop-at
decreases-loop-at l = length l.text - l.at
