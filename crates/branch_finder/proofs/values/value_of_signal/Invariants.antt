use Rattle.std.proofs.Common.{◌≡◌, drop}
use Rattle.branch_finder.specs.internal.Values.{value_in}
use Rattle.branch_finder.proofs.values.value_of_signal.Given as goal

-- none of the cells gone through is it
abbrev pub invariant-loop-place : goal.invariant-loop-place
invariant-loop-place l =
    value_in (drop l.place l.known.cells.now) (drop l.place l.known.values.now) l.known.step l.signal
    ≡ value_in l.known.cells.now l.known.values.now l.known.step l.signal
