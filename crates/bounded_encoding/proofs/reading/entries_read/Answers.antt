use Rattle.std.proofs.Common.{◌∙◌, ◌+◌, ◌*◌, map, length}
use Rattle.clause_core.specs.Clauses.{assignment_of}
use Rattle.letter_space.specs.SpaceTree.{choice_count}
use Rattle.letter_space.specs.SpaceView.{space_tree}
use Rattle.machines.specs.MachineView.{entry_tree}
use Rattle.bounded_encoding.specs.internal.Reading.{choice_from, entry_numbered}
use Rattle.bounded_encoding.specs.Reading.{next_from}
use Rattle.bounded_encoding.proofs.SolutionsAreAssignments.Readings.{numbered_more}
use Rattle.bounded_encoding.proofs.reading.entries_read.Goals as goal

pub loop-number-preserved : goal.loop-number-preserved
loop-number-preserved c =
    let a = assignment_of c.args.truths.now in
    let space = space_tree c.args.space.now in
    let choices = c.choices_in_all-choices.ensures.value in
    let n = c.loop-number.number in
    numbered_more (entry_numbered a space c.args.states (c.args.count * choice_count space.controlled)) entry_tree _ _ _ n
    c.loop-number.invariant
    (c.in_ok-entry_read.ensures ∙ (λ i. record {
      choices = map (choice_from a (n * choices i) (length space.predicates)) space.controlled;
      next = next_from a (c.args.count * choices i + n * c.args.states) c.args.states;
    })) c.in_ok-push.ensures.ok
