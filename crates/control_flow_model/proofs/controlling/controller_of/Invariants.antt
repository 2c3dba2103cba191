-- There is an entry for each number that was passed.
use Rattle.std.proofs.Common.{◌≡◌, length}
use Rattle.program_tree.specs.ProgramView.{program_tree}
use Rattle.letter_space.specs.SpaceView.{space_tree}
use Rattle.control_flow_model.proofs.EntryLists.{AreEntries}
use Rattle.control_flow_model.proofs.controlling.controller_of.Given as goal

abbrev pub invariant-loop-number : goal.invariant-loop-number
invariant-loop-number l = record {
  count : length l.entries ≡ l.number;
  are : AreEntries (space_tree l.space) (program_tree l.program) l.valuations l.entries;
}
