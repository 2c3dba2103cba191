use Rattle.letter_space.specs.SpaceView.{space_tree}
use Rattle.machine_finder.specs.internal.Entries.{AreEntries}
use Rattle.machine_finder.proofs.making.entries_of.Given as goal

abbrev pub invariant-loop-answer : goal.invariant-loop-answer
invariant-loop-answer l = AreEntries (space_tree l.space) l.states l.entries
