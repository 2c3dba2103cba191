use Rattle.std.proofs.Common.{take}
use Rattle.entry_names.specs.Places.{AreMarksOf}
use Rattle.entry_names.proofs.numbering.marks.Given as goal

abbrev pub invariant-loop-number : goal.invariant-loop-number
invariant-loop-number l = AreMarksOf l.count (take l.number-index l.numbers) l.marks.items
