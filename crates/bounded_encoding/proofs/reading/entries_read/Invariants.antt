use Rattle.std.proofs.Common.{◌≡◌, ◌*◌, map}
use Rattle.clause_core.specs.Clauses.{assignment_of}
use Rattle.letter_space.specs.SpaceTree.{choice_count}
use Rattle.letter_space.specs.SpaceView.{space_tree}
use Rattle.machines.specs.MachineView.{entry_tree}
use Rattle.bounded_encoding.specs.ClauseLists.{below}
use Rattle.bounded_encoding.specs.internal.Reading.{entry_numbered}
use Rattle.bounded_encoding.proofs.reading.entries_read.Given as goal

abbrev pub invariant-loop-number : goal.invariant-loop-number
invariant-loop-number l =
    map entry_tree l.entries ≡ map (entry_numbered (assignment_of l.truths) (space_tree l.space) l.states
    (l.count * choice_count (space_tree l.space).controlled)) (below l.number)
