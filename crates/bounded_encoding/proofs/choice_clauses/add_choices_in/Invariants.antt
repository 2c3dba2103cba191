use Rattle.std.proofs.Common.{◌≡◌}
use Rattle.bounded_encoding.specs.ClauseLists.{each}
use Rattle.bounded_encoding.specs.Variables.{valuations_of}
use Rattle.bounded_encoding.specs.Encoding.{choices_under, choices_in}
use Rattle.bounded_encoding.specs.internal.Asking.{tree_of}
use Rattle.bounded_encoding.specs.Made.{with_clauses}
use Rattle.bounded_encoding.proofs.choice_clauses.add_choices_in.Given as goal

abbrev pub invariant-loop-v : goal.invariant-loop-v
invariant-loop-v l = with_clauses l.out (each l.v (valuations_of (tree_of l.fn.question)) (choices_under (tree_of l.fn.question) l.s))
    ≡ with_clauses l.fn.out (choices_in (tree_of l.fn.question) l.s)
