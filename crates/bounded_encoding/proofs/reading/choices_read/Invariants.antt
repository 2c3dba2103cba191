use Rattle.std.proofs.Common.{◌≡◌, map, take, length}
use Rattle.clause_core.specs.Clauses.{assignment_of}
use Rattle.letter_space.specs.ControlledView.{controlled_tree}
use Rattle.letter_space.specs.SpaceView.{space_tree}
use Rattle.bounded_encoding.specs.internal.Reading.{choice_from}
use Rattle.bounded_encoding.proofs.reading.choices_read.Given as goal

abbrev pub invariant-loop-controlled : goal.invariant-loop-controlled
invariant-loop-controlled l =
    l.choices.items ≡ map (choice_from (assignment_of l.truths) l.base (length (space_tree l.fn.space).predicates))
    (map controlled_tree (take l.controlled-index l.controlled-items))
