use Rattle.std.proofs.Common.{◌≡◌, ◌-◌, ◌≤◌, length}
use Rattle.cobuchi_automata.specs.Counters.{risen}
use Rattle.cobuchi_automata.specs.internal.Exploring.{is_put_off}
use Rattle.cobuchi_automata.proofs.counters.risen.Given as goal

-- the counter rises from where it is as it does from where it was
abbrev pub invariant-loop-risen : goal.invariant-loop-risen
invariant-loop-risen l = record {
  risen : risen (is_put_off l.untils l.postponed) (length l.untils - l.risen) l.risen
      ≡ risen (is_put_off l.untils l.postponed) (length l.untils - l.counter) l.counter;
  within : l.risen ≤ length l.untils;
}

abbrev pub decreases-loop-risen : goal.decreases-loop-risen
decreases-loop-risen l = length l.untils - l.risen
