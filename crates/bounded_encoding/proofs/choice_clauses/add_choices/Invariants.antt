use Rattle.std.proofs.Common.{◌≡◌}
use Rattle.bounded_encoding.specs.ClauseLists.{each}
use Rattle.bounded_encoding.specs.Encoding.{choices_in, choice_clauses}
use Rattle.bounded_encoding.specs.internal.Asking.{tree_of}
use Rattle.bounded_encoding.specs.Made.{with_clauses}
use Rattle.bounded_encoding.proofs.choice_clauses.add_choices.Given as goal

abbrev pub invariant-loop-s : goal.invariant-loop-s
invariant-loop-s l = with_clauses l.out (each l.s l.fn.question.states (choices_in (tree_of l.fn.question)))
    ≡ with_clauses l.fn.out (choice_clauses (tree_of l.fn.question))
