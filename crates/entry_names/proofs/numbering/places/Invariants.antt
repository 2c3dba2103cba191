use Rattle.std.proofs.Common.{take}
use Rattle.entry_names.proofs.Slots.{PlacedSoFar}
use Rattle.entry_names.proofs.numbering.places.Given as goal

abbrev pub invariant-loop-place : goal.invariant-loop-place
invariant-loop-place l = PlacedSoFar l.count (take l.place l.numbers) l.places.items
