-- A turn of pairs through a rejecting edge gives a letter loop of the machine, and a path of the automaton that turns on it.
use Rattle.std.proofs.Common.{◌≡◌, ◌∙◌, ℕ, zero, suc, ◌+◌, ◌*◌, ◌/◌, ◌%◌, ◌-◌, ◌<◌, ◌≤◌, ◌^◌, inl, inr, Bool, true, false, ◌||◌, ◌==◌}
use Rattle.std.proofs.Common.{cond, List, [], ◌∷◌, ◌++◌}
use Rattle.std.proofs.Common.{length, map, Some, slice_get, Contains, refl, sym, ap, subst, arith, length-append}
use Rattle.std.specs.Prelude.{option_map}
use Rattle.std.specs.List.{list_any, AllByRecursion}
use Rattle.std.proofs.lemmas.Bool.{false≢true, eqb-true, cases_lt}
use Rattle.std.proofs.lemmas.List.{map-append, length-map}
use Rattle.std.proofs.lemmas.Option.{none-some, same_Some, slice_get-map, slice_get_within}
use Rattle.std.proofs.lemmas.Nat.{div-mul-add, mod-mul-add, div_below}
use Rattle.base_library.proofs.Places.{slice_get_some, slice_get_grown, slice_get-append}
use Rattle.loop_shape.specs.LoopShape.{LoopShape, after, steps_on}
use Rattle.loop_shape.proofs.Steps.{last, onward, steps_on-add}
use Rattle.ltl_formula.specs.LetterLoop.{LetterLoop, shape_of, letter_at}
use Rattle.ltl_formula.specs.Cubes.{cube_matches}
use Rattle.cobuchi_automata.specs.Automata.{EdgeTree}
use Rattle.cobuchi_automata.specs.Paths.{IsPath, rejections, FitsLetters, end_of, IsRejectingTurn}
use Rattle.machines.specs.Moves.{MoveTree, IsLoopOf}
use Rattle.annotation_check.specs.Annotations.{edges_from}
use Rattle.annotation_check.proofs.LeavingEdges.{passes_filtered}
use Rattle.full_bound.specs.internal.Graph.{IsWalk, MarkedTurn}
use Rattle.full_bound.specs.internal.Pairs.{PairStep, pair_steps, pair_after, is_rejecting}
use Rattle.full_bound.proofs.PairSteps.{in_steps}
use Rattle.full_bound.proofs.Walks.{walk_both}

straight : (shape : LoopShape) (n i : ℕ) → i + n < shape.start + shape.length → steps_on shape n i ≡ i + n
straight shape zero i below = omega arith
straight shape (suc n) i below = ap (steps_on shape n) (onward shape i (omega arith)) ∙ straight shape n (suc i) (omega arith) ∙ omega arith

round : (shape : LoopShape) (n : ℕ) → suc n ≡ shape.length → steps_on shape (suc n) shape.start ≡ shape.start
round shape n is =
    let cut : suc n ≡ n + 1 = omega arith in
    ap (λ k. steps_on shape k shape.start) cut ∙ steps_on-add shape n 1 shape.start
    ∙ ap (after shape) (straight shape n shape.start (omega (arith, is)))
    ∙ last shape (shape.start + n) (omega (arith, is))

module _ (states machine_states : ℕ) (some_state : 0 < states) (moves : ℕ → List MoveTree) (edges : List EdgeTree)
    (edges_stay : (q : ℕ) (e : EdgeTree) → Contains (edges_from edges q) e → e.to < states)
    (stays : (p : ℕ) (s : PairStep) → p < machine_states * states → Contains (pair_steps states moves edges p) s →
    pair_after states s < machine_states * states)
    (small : (s : ℕ) (m : MoveTree) → s < machine_states → Contains (moves s) m → m.letter < 2 ^ 64) where
  abbrev Steps : ℕ → List PairStep
  Steps = pair_steps states moves edges

  abbrev Walk : ℕ → List PairStep → ℕ → Type 0
  Walk = IsWalk Steps (pair_after states) is_rejecting

  abbrev letters_of : List PairStep → List ℕ
  letters_of ss = map (λ s. s.move.letter) ss

  abbrev edges_of : List PairStep → List EdgeTree
  edges_of ss = map (λ s. s.edge) ss

  record Parts (p : ℕ) (s : PairStep) : Type 0 where
    moved : Contains (moves (p / states)) s.move
    stands : Contains edges s.edge
    leaves : s.edge.from ≡ p % states
    stays_in : s.edge.to < states
    matches : cube_matches s.edge.care s.edge.want s.move.letter ≡ true

  parts : (p : ℕ) (s : PairStep) → Contains (Steps p) s → Parts p s
  parts p s h =
      let r = in_steps (moves (p / states)) (edges_from edges (p % states)) s h in
      let e = passes_filtered (λ d. d.from == p % states) edges s.edge r.1 in
      record {
        moved = r.0;
        stands = e.0;
        leaves = eqb-true s.edge.from (p % states) e.1;
        stays_in = edges_stay (p % states) s.edge r.1;
        matches = r.2;
      }

  to_state : (p : ℕ) (s : PairStep) → Contains (Steps p) s → pair_after states s % states ≡ s.edge.to
  to_state p s h = mod-mul-add s.move.next states s.edge.to (parts p s h).stays_in

  to_machine : (p : ℕ) (s : PairStep) → Contains (Steps p) s → pair_after states s / states ≡ s.move.next
  to_machine p s h = div-mul-add s.move.next states s.edge.to (parts p s h).stays_in

  ends_by : (ss : List PairStep) (p r q : ℕ) → Walk p ss r → p % states ≡ q → end_of q (edges_of ss) ≡ r % states
  ends_by [] p r q walk is = sym is ∙ ap (λ n. n % states) walk
  ends_by (s ∷ ss) p r q walk is = ends_by ss (pair_after states s) r s.edge.to walk.1 (to_state p s walk.0)

  rejects_by : (ss : List PairStep) → list_any is_rejecting ss ≡ true → 1 ≤ rejections (edges_of ss)
  rejects_by [] h = absurd (false≢true h)
  rejects_by (s ∷ ss) h = by s.edge.rejecting h (rejects_by ss)
    where
      by : (b : Bool) → (b || list_any is_rejecting ss) ≡ true → (list_any is_rejecting ss ≡ true → 1 ≤ rejections (edges_of ss)) →
          1 ≤ cond b 1 0 + rejections (edges_of ss)
      by true h rest = omega arith
      by false h rest = let r = rest h in omega arith

  fit : (ss : List PairStep) (p r : ℕ) → p < machine_states * states → Walk p ss r → AllByRecursion (λ l. l < 2 ^ 64) (letters_of ss)
  fit [] p r below walk = tt
  fit (s ∷ ss) p r below walk = (
    small (p / states) s.move (div_below p states machine_states some_state below) (parts p s walk.0).moved,
    fit ss (pair_after states s) r (stays p s below walk.0) walk.1,
  )

  -- the nodes of a walk, in order
  abbrev node_at : ℕ → List PairStep → ℕ → ℕ
  node_at p [] k = p
  node_at p (s ∷ ss) zero = p
  node_at p (s ∷ ss) (suc k) = node_at (pair_after states s) ss k

  node_first : (p : ℕ) (ss : List PairStep) → node_at p ss 0 ≡ p
  node_first p [] = refl
  node_first p (s ∷ ss) = refl

  node_end : (p : ℕ) (ss : List PairStep) (r : ℕ) → Walk p ss r → node_at p ss (length ss) ≡ r
  node_end p [] r walk = walk
  node_end p (s ∷ ss) r walk = node_end (pair_after states s) ss r walk.1

  node_between : (p : ℕ) (ss ts : List PairStep) (r : ℕ) → Walk p ss r → node_at p (ss ++ ts) (length ss) ≡ r
  node_between p [] ts r walk = node_first p ts ∙ walk
  node_between p (s ∷ ss) ts r walk = node_between (pair_after states s) ss ts r walk.1

  node_step : (p : ℕ) (ss : List PairStep) (r k : ℕ) (s : PairStep) → Walk p ss r → slice_get ss k ≡ Some s →
      Contains (Steps (node_at p ss k)) s × (node_at p ss (suc k) ≡ pair_after states s)
  node_step p [] r k s walk at = absurd (none-some s at)
  node_step p (x ∷ ss) r zero s walk at =
      let same : x ≡ s = same_Some x s at in
      (subst (Contains (Steps p)) same walk.0, node_first (pair_after states x) ss ∙ ap (pair_after states) same)
  node_step p (x ∷ ss) r (suc k) s walk at = node_step (pair_after states x) ss r k s walk.1 at

  module _ (found : MarkedTurn Steps (pair_after states) is_rejecting) (some_node : 0 < machine_states * states) where
    abbrev all : List PairStep
    all = found.stem ++ found.turn

    abbrev pub loop : LetterLoop
    loop = record { stem = letters_of found.stem; cycle = letters_of found.turn }

    abbrev shape : LoopShape
    shape = shape_of loop

    stem_long : shape.start ≡ length found.stem
    stem_long = length-map found.stem (λ (s : PairStep). s.move.letter)

    turn_long : shape.length ≡ length found.turn
    turn_long = length-map found.turn (λ (s : PairStep). s.move.letter)

    some_turn : 0 < length found.turn
    some_turn = by found.turn found.passes
      where
        by : (ss : List PairStep) → list_any is_rejecting ss ≡ true → 0 < length ss
        by [] h = absurd (false≢true h)
        by (s ∷ ss) h = omega arith

    whole : Walk 0 all found.node
    whole = walk_both Steps (pair_after states) is_rejecting 0 found.stem found.turn found.node found.node found.to_node found.back

    letter_there : (k : ℕ) (s : PairStep) → slice_get all k ≡ Some s → letter_at loop k ≡ Some s.move.letter
    letter_there k s at =
        ap (λ ls. slice_get ls k) (sym (map-append (λ (t : PairStep). t.move.letter) found.stem found.turn))
        ∙ slice_get-map (λ (t : PairStep). t.move.letter) all k ∙ ap (option_map (λ (t : PairStep). t.move.letter)) at

    path_by : (ss : List PairStep) (i p r q : ℕ) → Walk p ss r → p % states ≡ q → i + length ss ≤ shape.start + shape.length
        → ((k : ℕ) (s : PairStep) → slice_get ss k ≡ Some s → letter_at loop (i + k) ≡ Some s.move.letter) →
        IsPath edges loop q i (edges_of ss)
    path_by [] i p r q walk is room at = tt
    path_by (s ∷ ss) i p r q walk is room at =
        let own = parts p s walk.0 in
        let here : i + 0 ≡ i = omega arith in (
          own.stands,
          own.leaves ∙ is,
          (s.move.letter, ap (letter_at loop) (sym here) ∙ at 0 s refl, own.matches),
          rest ss room (path_by ss (suc i) (pair_after states s) r s.edge.to walk.1 (to_state p s walk.0) (omega (arith, room))
              (λ k t there. let e : suc i + k ≡ i + suc k = omega arith in ap (letter_at loop) e ∙ at (suc k) t there)),
        )
      where
        rest : (ts : List PairStep) → i + suc (length ts) ≤ shape.start + shape.length → IsPath edges loop s.edge.to (suc i) (edges_of ts)
            → IsPath edges loop s.edge.to (after shape i) (edges_of ts)
        rest [] room path = tt
        rest (t ∷ ts) room path =
            subst (λ j. IsPath edges loop s.edge.to j (edges_of (t ∷ ts))) (sym (onward shape i (omega arith))) path

    zero_state : 0 % states ≡ 0
    zero_state = let e : 0 ≡ 0 * states + 0 = omega arith in ap (λ n. n % states) e ∙ mod-mul-add 0 states 0 some_state

    zero_machine : 0 / states ≡ 0
    zero_machine = let e : 0 ≡ 0 * states + 0 = omega arith in ap (λ n. n / states) e ∙ div-mul-add 0 states 0 some_state

    stem_edges : length (edges_of found.stem) ≡ shape.start
    stem_edges = length-map found.stem (λ (s : PairStep). s.edge) ∙ sym stem_long

    turn_edges : length (edges_of found.turn) ≡ shape.length
    turn_edges = length-map found.turn (λ (s : PairStep). s.edge) ∙ sym turn_long

    at_turn : steps_on shape (length (edges_of found.stem)) 0 ≡ shape.start
    at_turn =
        ap (λ n. steps_on shape n 0) stem_edges
        ∙ straight shape shape.start 0 (omega (arith, turn_long, some_turn)) ∙ omega arith

    goes_round : steps_on shape (length (edges_of found.turn)) shape.start ≡ shape.start
    goes_round =
        let cut : suc (shape.length - 1) ≡ shape.length = omega (arith, turn_long, some_turn) in
        ap (λ n. steps_on shape n shape.start) (turn_edges ∙ sym cut) ∙ round shape (shape.length - 1) cut

    stem_ends : end_of 0 (edges_of found.stem) ≡ found.node % states
    stem_ends = ends_by found.stem 0 found.node 0 found.to_node zero_state

    pub rejecting : IsRejectingTurn edges loop (edges_of found.stem) (edges_of found.turn)
    rejecting = record {
      to_turn = path_by found.stem 0 0 found.node 0 found.to_node zero_state (omega (arith, stem_long))
          (λ k s at. let e : 0 + k ≡ k = omega arith in ap (letter_at loop) e
          ∙ letter_there k s (slice_get_grown found.stem found.turn k s at));
      turns = subst (λ i. IsPath edges loop (end_of 0 (edges_of found.stem)) i (edges_of found.turn)) (sym at_turn)
          (path_by found.turn shape.start found.node found.node (end_of 0 (edges_of found.stem)) found.back (sym stem_ends)
          (omega (arith, turn_long))
          (λ k s at. let e : shape.start + k ≡ length found.stem + k = omega (arith, stem_long) in ap (letter_at loop) e
          ∙ letter_there (length found.stem + k) s (slice_get-append found.stem found.turn k (length found.stem + k) refl ∙ at)));
      same_state = ends_by found.turn found.node found.node (end_of 0 (edges_of found.stem)) found.back (sym stem_ends) ∙ sym stem_ends;
      same_position = ap (steps_on shape (length (edges_of found.turn))) at_turn ∙ goes_round ∙ sym at_turn;
      rejects = rejects_by found.turn found.passes;
    }

    abbrev pub state_at : ℕ → ℕ
    state_at i = node_at 0 all i / states

    next_node : (i : ℕ) (s : PairStep) → i < length all → slice_get all i ≡ Some s → node_at 0 all (after shape i) ≡ pair_after states s
    next_node i s below at = elim (cases_lt (suc i) (shape.start + shape.length)) [
      | inl less ↦ ap (node_at 0 all) (onward shape i (omega (arith, less))) ∙ (node_step 0 all found.node i s whole at).1
      | inr end ↦
          let long = length-append found.stem found.turn in
          let is : suc i ≡ length all = omega (arith, end, long, stem_long, turn_long) in
          ap (node_at 0 all) (last shape i (omega (arith, is, long, stem_long, turn_long)) ∙ stem_long)
          ∙ node_between 0 found.stem found.turn found.node found.to_node
          ∙ sym (node_end 0 all found.node whole) ∙ ap (node_at 0 all) (sym is)
          ∙ (node_step 0 all found.node i s whole at).1
    ]

    pub runs : IsLoopOf moves loop state_at
    runs = record {
      begins = ap (λ n. n / states) (node_first 0 all) ∙ zero_machine;
      goes_on = λ i l at.
          let long = length-append found.stem found.turn in
          let joined = length-append loop.stem loop.cycle in
          let within = slice_get_within (loop.stem ++ loop.cycle) i l at in
          let below : i < length all = omega (arith, long, joined, within, stem_long, turn_long) in
          let s = slice_get_some all i below in
          let step = node_step 0 all found.node i s.0 whole s.1 in
          let letter : s.0.move.letter ≡ l = same_Some s.0.move.letter l (sym (letter_there i s.0 s.1) ∙ at) in
          let next : s.0.move.next ≡ state_at (after shape i) =
          sym (to_machine (node_at 0 all i) s.0 step.0) ∙ ap (λ n. n / states) (sym (next_node i s.0 below s.1)) in
          subst (Contains (moves (state_at i))) (λ k. record { letter = letter k; next = next k })
          (parts (node_at 0 all i) s.0 step.0).moved;
    }

    pub fits : FitsLetters loop
    fits = subst (AllByRecursion (λ l. l < 2 ^ 64)) (map-append (λ (t : PairStep). t.move.letter) found.stem found.turn)
        (fit all 0 found.node some_node whole)

    pub goes_on : 1 ≤ length loop.cycle
    goes_on = omega (arith, turn_long, some_turn)
