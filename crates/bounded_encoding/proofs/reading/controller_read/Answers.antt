use Rattle.std.proofs.Common.{◌*◌}
use Rattle.clause_core.specs.Clauses.{assignment_of}
use Rattle.letter_space.specs.SpaceTree.{choice_count}
use Rattle.letter_space.specs.SpaceView.{space_tree}
use Rattle.bounded_encoding.proofs.SolutionsAreAssignments.Readings.{entries_counted, entries_stay}
use Rattle.bounded_encoding.proofs.reading.controller_read.Goals as goal

pub invariant_of-result : goal.invariant_of-result
invariant_of-result c =
    let a = assignment_of c.args.truths.now in
    let space = space_tree c.args.space.now in
    let rows = c.args.states * c.valuations-valuations.result in
    record {
      has_state = c.requires.has_state;
      has_entries = entries_counted a space c.args.states (rows * choice_count space.controlled) rows c.in_ok-entries.entries
          c.in_ok-entries.ensures;
      stays = entries_stay a space c.args.states (rows * choice_count space.controlled) rows c.in_ok-entries.entries
          c.in_ok-entries.ensures c.requires.has_state;
    }
