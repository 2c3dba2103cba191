use Rattle.std.proofs.Common.{◌≡◌}
use Rattle.bounded_encoding.specs.ClauseLists.{each}
use Rattle.bounded_encoding.specs.FrameView.{frame_tree}
use Rattle.bounded_encoding.specs.Made.{with_clauses}
use Rattle.bounded_encoding.specs.internal.Transitions.{IsRoom, unless, clauses_for, clauses_of_transition}
use Rattle.bounded_encoding.proofs.transition_clauses.add_each_next.Given as goal

abbrev pub invariant-loop-t : goal.invariant-loop-t
invariant-loop-t l = record {
  room : IsRoom (unless (frame_tree l.fn.frame) l.fn.transition) l.literals;
  added : with_clauses l.out (each l.t l.fn.frame.states (clauses_for (frame_tree l.fn.frame) l.fn.transition))
      ≡ with_clauses l.fn.out (clauses_of_transition (frame_tree l.fn.frame) l.fn.transition);
}
