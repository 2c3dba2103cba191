-- So many digits are not too many.
use Rattle.std.proofs.Common.{ℕ, ◌≤◌, ◌-◌, ◌^◌}
use Rattle.controller_circuits.proofs.tables.digits_for.Given as goal

abbrev pub invariant-loop-count : goal.invariant-loop-count
invariant-loop-count l = record {
  least : (n : ℕ) → l.states ≤ 2 ^ n → l.count ≤ n;
  few : l.count ≤ 6;
}

abbrev pub decreases-loop-count : goal.decreases-loop-count
decreases-loop-count l = 6 - l.count
