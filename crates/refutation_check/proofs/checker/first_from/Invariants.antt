use Rattle.std.proofs.Common.{◌-◌, ◌<◌, ◌≤◌, length}
use Rattle.std.specs.List.{AllWithin}
use Rattle.refutation_check.proofs.checker.first_from.Given as goal

abbrev pub invariant-loop-low : goal.invariant-loop-low
invariant-loop-low l = record {
  order : l.low ≤ l.high;
  within : l.high ≤ length l.accepted;
  below : AllWithin (λ step. step.number < l.number) l.accepted 0 l.low;
  above : AllWithin (λ step. l.number ≤ step.number) l.accepted l.high (length l.accepted);
}

abbrev pub decreases-loop-low : goal.decreases-loop-low
decreases-loop-low l = l.high - l.low
