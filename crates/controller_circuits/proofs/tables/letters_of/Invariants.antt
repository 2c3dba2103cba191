-- The letters of the places so far.
use Rattle.std.proofs.Common.{◌≡◌, ℕ, ◌<◌, ◌%◌, Some, length, slice_get}
use Rattle.letter_space.specs.SpaceView.{space_tree}
use Rattle.letter_space.specs.Letters.{letter_of}
use Rattle.machines.specs.MachineTree.{EntryTree}
use Rattle.machines.specs.MachineView.{controller_tree}
use Rattle.controller_circuits.specs.internal.Tables.{padded_entry}
use Rattle.controller_circuits.proofs.tables.letters_of.Given as goal

abbrev pub invariant-loop-place : goal.invariant-loop-place
invariant-loop-place l = record {
  count : length l.letters.items ≡ l.place;
  letters : (i : ℕ) (e : EntryTree) → i < l.place → padded_entry (controller_tree l.controller) i ≡ Some e
      → slice_get l.letters.items i ≡ Some (letter_of (space_tree l.space) (i % l.controller.valuations) e.choices);
}
