use Rattle.std.proofs.Common.{◌≡◌, drop}
use Rattle.std.specs.List.{flat_map}
use Rattle.letter_space.specs.ControlledView.{controlled_tree}
use Rattle.bounded_encoding.specs.Encoding.{signal_clauses}
use Rattle.bounded_encoding.specs.Made.{with_clauses}
use Rattle.bounded_encoding.specs.internal.Asking.{tree_of}
use Rattle.bounded_encoding.proofs.choice_clauses.add_signals.Given as goal

abbrev pub invariant-loop-signal : goal.invariant-loop-signal
invariant-loop-signal l = with_clauses l.out
    (flat_map (λ c. signal_clauses (tree_of l.fn.question) l.s l.v (controlled_tree c)) (drop l.signal-index l.signals))
    ≡ with_clauses l.fn.out (flat_map (λ c. signal_clauses (tree_of l.fn.question) l.s l.v (controlled_tree c)) l.signals)
