-- The automaton of a formula accepts the loops on which the formula holds.
use Rattle.std.proofs.Common.{◌≡◌, ◌∙◌, ℕ, ◌+◌, ◌*◌, ◌/◌, ◌%◌, ◌<◌, ◌≤◌, ◌==◌, Bool, true, false, ◌&&◌, cond, ◌↔◌, List, length}
use Rattle.std.proofs.Common.{Option, None, Some, slice_get, Contains, refl, sym, ap, arith}
use Rattle.std.specs.Prelude.{option_and_then}
use Rattle.std.proofs.lemmas.Bool.{and_parts, and_from, eqb-true, eq-eqb}
use Rattle.std.proofs.lemmas.Nat.{div-mul-add, mod-mul-add}
use Rattle.std.proofs.lemmas.Option.{none-some, same_Some, slice_get-get_or, slice_get_within}
use Rattle.base_library.proofs.Each.{each_contained}
use Rattle.base_library.proofs.Places.{contains_at}
use Rattle.loop_shape.specs.LoopShape.{after}
use Rattle.ltl_formula.specs.LtlTree.{LtlTree}
use Rattle.ltl_formula.specs.LetterLoop.{LetterLoop, shape_of, letter_at, holds}
use Rattle.ltl_formula.specs.Cubes.{cube_matches}
use Rattle.cobuchi_automata.specs.Automata.{StateTree, EdgeTree, IsOfChoice, IsAutomaton, untils_of, state_after, start_state}
use Rattle.cobuchi_automata.specs.Paths.{FitsLetters}
use Rattle.cobuchi_automata.proofs.LawLemmas.{law as holds_rejecting}
use Rattle.cobuchi_automata.proofs.RejectingTurns.{law as turns_holding}
use Rattle.loop_acceptance.specs.declared.product.Step.{Step}
use Rattle.loop_acceptance.specs.Accepts.{Accepts}
use Rattle.loop_acceptance.proofs.ProductSteps.{then_some}
use Rattle.loop_acceptance.proofs.LoopTurns.{node, IsTaken, GoesAlong, IsLoopGraph, turns_accepted, many_rejections_turn}

-- ---- the edges of an automaton as steps of pairs

module _ (edges : List EdgeTree) (loop : LetterLoop) (states : ℕ) where
  abbrev step_by : ℕ → ℕ → EdgeTree → ℕ → Option Step
  step_by i q e letter = cond ((e.from == q) && cube_matches e.care e.want letter)
      (Some (record { to = node states (after (shape_of loop) i) e.to; rejecting = e.rejecting })) None

  -- the step by the edge with a number
  abbrev step_in : ℕ → ℕ → ℕ → Option Step
  step_in i q k = option_and_then (λ e. option_and_then (step_by i q e) (letter_at loop i)) (slice_get edges k)

  abbrev step : ℕ → ℕ → Option Step
  step p k = step_in (p / states) (p % states) k

  step_at_node : (i q k : ℕ) → q < states → step (node states i q) k ≡ step_in i q k
  step_at_node i q k below =
      ap (λ m. step_in m (node states i q % states) k) (div-mul-add i states q below)
      ∙ ap (λ m. step_in i m k) (mod-mul-add i states q below)

  has : (i q : ℕ) (e : EdgeTree) → q < states → IsTaken edges loop i q e →
      (k : ℕ) × (s : Step) × (step (node states i q) k ≡ Some s) × GoesAlong states loop i e s
  has i q e below taken =
      let place = taken.stands in
      let s : Step = record { to = node states (after (shape_of loop) i) e.to; rejecting = e.rejecting } in (
        place.0,
        s,
        step_at_node i q place.0 below
            ∙ ap (option_and_then (λ d. option_and_then (step_by i q d) (letter_at loop i)))
            (slice_get-get_or edges place.0 e place.1 ∙ ap Some place.2)
            ∙ ap (option_and_then (step_by i q e)) taken.reads
            ∙ ap (λ b. cond b (Some s) None)
            (and_from (e.from == q) (cube_matches e.care e.want taken.letter) (eq-eqb e.from q taken.leaves) taken.matches),
        record { to = refl; marked = refl },
      )

  only : (i q k : ℕ) (s : Step) → q < states → step (node states i q) k ≡ Some s →
      (e : EdgeTree) × IsTaken edges loop i q e × GoesAlong states loop i e s
  only i q k s below at =
      let first = then_some (λ e. option_and_then (step_by i q e) (letter_at loop i)) (slice_get edges k) s
      (sym (step_at_node i q k below) ∙ at) in
      let second = then_some (step_by i q first.0) (letter_at loop i) s first.2 in
      by first.0 first.1 second.0 second.1 ((first.0.from == q) && cube_matches first.0.care first.0.want second.0) refl second.2
    where
      by : (e : EdgeTree) → slice_get edges k ≡ Some e → (letter : ℕ) → letter_at loop i ≡ Some letter → (b : Bool)
          → ((e.from == q) && cube_matches e.care e.want letter) ≡ b
          → cond b (Some (record { to = node states (after (shape_of loop) i) e.to; rejecting = e.rejecting })) None ≡ Some s
          → (e : EdgeTree) × IsTaken edges loop i q e × GoesAlong states loop i e s
      by e stands letter reads true passes is =
          let parts = and_parts (e.from == q) (cube_matches e.care e.want letter) passes in
          let same = same_Some (record { to = node states (after (shape_of loop) i) e.to; rejecting = e.rejecting }) s is in (
            e,
            record {
              stands = contains_at edges k e stands;
              leaves = eqb-true e.from q parts.0;
              letter = letter;
              reads = reads;
              matches = parts.1;
            },
            record { to = sym (ap (λ x. x.to) same); marked = sym (ap (λ x. x.rejecting) same) },
          )
      by e stands letter reads false passes is = absurd (none-some s is)

  pub graph : 1 ≤ states → 1 ≤ length loop.cycle → ((e : EdgeTree) → Contains edges e → e.to < states) → IsLoopGraph states edges loop step
  graph starts goes_round stays = record {
    starts = starts;
    goes_round = goes_round;
    stays = stays;
    has = has;
    only = only;
  }

-- ---- the law

pub accepts_where_it_holds : (f : LtlTree) (states : List StateTree) (edges : List EdgeTree) → IsAutomaton f states edges →
    (loop : LetterLoop) → FitsLetters loop → 1 ≤ length loop.cycle → (Accepts edges loop ↔ (holds loop f 0 ≡ true))
accepts_where_it_holds f states edges automaton loop letters goes_round = (
  λ accepts. turns_holding f states edges automaton loop letters goes_round accepts.0 accepts.1 accepts.2,
  λ holding.
      let count = (length loop.stem + length loop.cycle) * length states in
      let found = holds_rejecting f states edges automaton loop letters goes_round holding count in
      let starts : 1 ≤ length states = (let w = slice_get_within states 0 (start_state f) automaton.start in omega (arith, w)) in
      let steps = graph edges loop (length states) starts goes_round (λ e stands.
      let of = each_contained (IsOfChoice (untils_of f) states) edges e automaton.of_choices stands in
      slice_get_within states e.to (state_after (untils_of f) of.state of.choice) of.there) in
      turns_accepted (length states) edges loop (step edges loop (length states)) steps
      (many_rejections_turn (length states) edges loop (step edges loop (length states)) steps found.0 found.1 found.3),
)
