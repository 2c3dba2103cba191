-- The next states of the places so far.
use Rattle.std.proofs.Common.{◌≡◌, ℕ, ◌<◌, Some, length, slice_get}
use Rattle.machines.specs.MachineTree.{EntryTree}
use Rattle.machines.specs.MachineView.{controller_tree}
use Rattle.controller_circuits.specs.internal.Tables.{padded_entry}
use Rattle.controller_circuits.proofs.tables.next_states.Given as goal

abbrev pub invariant-loop-place : goal.invariant-loop-place
invariant-loop-place l = record {
  count : length l.next.items ≡ l.place;
  next : (i : ℕ) (e : EntryTree) → i < l.place → padded_entry (controller_tree l.controller) i ≡ Some e
      → slice_get l.next.items i ≡ Some e.next;
}
