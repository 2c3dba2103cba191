use Rattle.std.proofs.Common.{◌≡◌, ◌+◌, ◌∷◌, []}
use Rattle.bounded_encoding.specs.ClauseLists.{each}
use Rattle.bounded_encoding.specs.FrameView.{frame_tree}
use Rattle.bounded_encoding.specs.Made.{with_clauses}
use Rattle.bounded_encoding.specs.internal.Transitions.{IsAround, shared, clause_for, clauses_for}
use Rattle.bounded_encoding.proofs.transition_clauses.add_each_number.Given as goal

abbrev pub invariant-loop-i : goal.invariant-loop-i
invariant-loop-i l = record {
  around : IsAround (shared (frame_tree l.fn.frame) l.fn.transition l.fn.t) l.literals;
  added : with_clauses l.out
      (each l.i (l.fn.frame.bound + 1) (λ i. clause_for (frame_tree l.fn.frame) l.fn.transition l.fn.t i ∷ []))
      ≡ with_clauses l.fn.out (clauses_for (frame_tree l.fn.frame) l.fn.transition l.fn.t);
}
