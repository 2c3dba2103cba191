-- Literals before and behind a middle.
use Rattle.std.proofs.Common.{◌≡◌, ◌∙◌, ◌+◌, ◌-◌, ℕ, suc, List, [], ◌∷◌, ◌++◌, length, cond, ap, arith, length-append, slice_set}
use Rattle.std.specs.Prelude.{nat_le}
use Rattle.std.proofs.Math.Seq.{set-append_seam}
use Rattle.clause_core.specs.Literals.{Lit}
use Rattle.cobuchi_automata.specs.Edges.{edge_tree}
use Rattle.annotation_check.specs.Annotations.{after_edge}
use Rattle.bounded_encoding.specs.SimpleClauses.{yes_at, no_at}
use Rattle.bounded_encoding.specs.Frames.{FrameTree, next_at, number_at}
use Rattle.bounded_encoding.specs.Sides.{clause_along}
use Rattle.bounded_encoding.specs.declared.edge_literals.Pairs.{Pairs}
use Rattle.bounded_encoding.specs.declared.edge_literals.Transition.{Transition}
use Rattle.bounded_encoding.specs.internal.Transitions.{ArePairs, IsAround}

-- where the last one stands
last_place : (middle xs : List Lit) → IsAround middle xs → length xs - 1 ≡ suc (length middle)
last_place middle xs h = let two : length (middle ++ h.last ∷ []) ≡ length middle + 1 = length-append middle (h.last ∷ []) in
    omega (arith, ap length h.is, two)

-- the first one and the last one put in place
pub around_both : (middle xs : List Lit) (a b : Lit) → IsAround middle xs →
    IsAround middle (slice_set (slice_set xs 0 a) (length xs - 1) b)
around_both middle xs a b h = record {
  first = a;
  last = b;
  is = (λ i. slice_set (slice_set (h.is i) 0 a) (last_place middle xs h i) b)
      ∙ ap (λ (ys : List Lit). a ∷ ys) (set-append_seam middle h.last [] b);
}

-- what is put is the clause of a number
pub clause_is : (f : FrameTree) (transition : Transition) (t : ℕ) (pairs : Pairs) (unless : List Lit) (i later : ℕ)
    → ArePairs f transition t pairs → later ≡ after_edge i (edge_tree transition.edge)
    → no_at (pairs.left + i) ∷ ((no_at (next_at f transition.state transition.row t) ∷ unless)
    ++ cond (nat_le later f.bound) (yes_at (pairs.reached + later) ∷ []) [])
    ≡ clause_along f unless transition.state (edge_tree transition.edge) transition.row t i
clause_is f transition t pairs unless i later h is =
    let reached : pairs.reached + later ≡ number_at f t transition.edge.to (after_edge i (edge_tree transition.edge))
    = h.reached later ∙ ap (number_at f t transition.edge.to) is in
    λ k. no_at (h.left i k) ∷ (no_at (next_at f transition.state transition.row t) ∷
    (unless ++ cond (nat_le (is k) f.bound) (yes_at (reached k) ∷ []) []))
