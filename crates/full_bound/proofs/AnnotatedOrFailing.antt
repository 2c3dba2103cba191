-- A machine has an annotation within its states times those of the automaton, or a letter loop on which the formula holds, and never both.
use Rattle.std.proofs.Common.{◌∙◌, ℕ, ◌*◌, ◌/◌, ◌%◌, ◌<◌, ◌^◌, ◌⊎◌, inl, inr, ◌==◌, List, length, Contains, sym, arith}
use Rattle.std.proofs.lemmas.Bool.{false≢true}
use Rattle.std.proofs.lemmas.Option.{slice_get_within}
use Rattle.std.proofs.lemmas.Nat.{mul-add-lt, mul-lt, div_below}
use Rattle.base_library.proofs.Each.{each_contained}
use Rattle.ltl_formula.specs.LtlTree.{LtlTree}
use Rattle.cobuchi_automata.specs.Automata.{StateTree, EdgeTree, untils_of, start_state, state_after, IsOfChoice, IsAutomaton}
use Rattle.cobuchi_automata.proofs.RejectingTurns.{law}
use Rattle.machines.specs.Moves.{MoveTree}
use Rattle.annotation_check.specs.Annotations.{edges_from}
use Rattle.annotation_check.proofs.LeavingEdges.{passes_filtered}
use Rattle.annotation_check.proofs.PathBounds.{fails}
use Rattle.full_bound.specs.Failing.{StayWithin, IsFailing, Fails, HasAnnotationWithin}
use Rattle.full_bound.specs.internal.Graph.{MarkedTurn}
use Rattle.full_bound.specs.internal.Pairs.{PairStep, pair_steps, pair_after, is_rejecting}
use Rattle.full_bound.proofs.Turns.{turn_or_numbering}
use Rattle.full_bound.proofs.PairSteps.{in_steps}
use Rattle.full_bound.proofs.PairNumbers.{pair_number, annotation}
use Rattle.full_bound.proofs.PairLoops.{loop, state_at, rejecting, runs, fits, goes_on}

module _ (f : LtlTree) (states : List StateTree) (edges : List EdgeTree) (automaton : IsAutomaton f states edges)
    (machine_states : ℕ) (some_machine : 0 < machine_states) (moves : ℕ → List MoveTree)
    (stay : StayWithin machine_states moves) where
  abbrev Q : ℕ
  Q = length states

  pub some_state : 0 < Q
  some_state = omega (arith, slice_get_within states 0 (start_state f) automaton.start)

  pub edges_stay : (q : ℕ) (e : EdgeTree) → Contains (edges_from edges q) e → e.to < Q
  edges_stay q e h =
      let stands = (passes_filtered (λ d. d.from == q) edges e h).0 in
      let o = each_contained (IsOfChoice (untils_of f) states) edges e automaton.of_choices stands in
      slice_get_within states e.to (state_after (untils_of f) o.state o.choice) o.there

  pub some_node : 0 < machine_states * Q
  some_node = omega (arith, mul-lt 0 0 machine_states Q some_machine some_state)

  pub stays : (p : ℕ) (s : PairStep) → p < machine_states * Q → Contains (pair_steps Q moves edges p) s →
      pair_after Q s < machine_states * Q
  stays p s below h =
      let r = in_steps (moves (p / Q)) (edges_from edges (p % Q)) s h in
      let next = (stay (p / Q) s.move (div_below p Q machine_states some_state below) r.0).0 in
      omega (arith, mul-add-lt s.move.next Q s.edge.to machine_states next (edges_stay (p % Q) s.edge r.1))

  pub small : (s : ℕ) (m : MoveTree) → s < machine_states → Contains (moves s) m → m.letter < 2 ^ 64
  small s m below h = (stay s m below h).1

  -- a turn of pairs through a rejecting edge
  pub failing : (turn : MarkedTurn (pair_steps Q moves edges) (pair_after Q) is_rejecting) →
      IsFailing f moves (loop Q machine_states some_state moves edges edges_stay stays small turn some_node)
  failing turn = record {
    state = state_at Q machine_states some_state moves edges edges_stay stays small turn some_node;
    runs = runs Q machine_states some_state moves edges edges_stay stays small turn some_node;
    fits = fits Q machine_states some_state moves edges edges_stay stays small turn some_node;
    goes_round = goes_on Q machine_states some_state moves edges edges_stay stays small turn some_node;
    holds_there =
        law f states edges automaton (loop Q machine_states some_state moves edges edges_stay stays small turn some_node)
        (fits Q machine_states some_state moves edges edges_stay stays small turn some_node)
        (goes_on Q machine_states some_state moves edges edges_stay stays small turn some_node) _ _
        (rejecting Q machine_states some_state moves edges edges_stay stays small turn some_node);
  }

  pub turn_or_annotated : MarkedTurn (pair_steps Q moves edges) (pair_after Q) is_rejecting
      ⊎ HasAnnotationWithin edges moves (machine_states * Q)
  turn_or_annotated =
      elim (turn_or_numbering (pair_steps Q moves edges) (pair_after Q) is_rejecting (machine_states * Q) some_node stays) [
        | inl turn ↦ inl turn
        | inr numbers ↦
            inr (
              pair_number Q machine_states some_state moves edges edges_stay numbers.0 numbers.1,
              annotation Q machine_states some_state moves edges edges_stay numbers.0 numbers.1,
            )
      ]

  either : Fails f moves ⊎ HasAnnotationWithin edges moves (machine_states * Q)
  either = elim turn_or_annotated [
    | inl turn ↦ inl (loop Q machine_states some_state moves edges edges_stay stays small turn some_node, failing turn)
    | inr annotated ↦ inr annotated
  ]

pub annotated_or_failing : (f : LtlTree) (states : List StateTree) (edges : List EdgeTree) → IsAutomaton f states edges →
    (machine_states : ℕ) → 0 < machine_states → (moves : ℕ → List MoveTree) → StayWithin machine_states moves →
    Fails f moves ⊎ HasAnnotationWithin edges moves (machine_states * length states)
annotated_or_failing f states edges automaton machine_states some moves stay = either f states edges automaton machine_states some moves
    stay

pub not_both : (f : LtlTree) (states : List StateTree) (edges : List EdgeTree) → IsAutomaton f states edges →
    (moves : ℕ → List MoveTree) (bound : ℕ) → Fails f moves → HasAnnotationWithin edges moves bound → ⊥
not_both f states edges automaton moves bound (loop, failing) (number, annotation) =
    false≢true (sym (fails edges moves bound number annotation loop failing.state failing.runs f states automaton failing.fits
    failing.goes_round)
    ∙ failing.holds_there)
