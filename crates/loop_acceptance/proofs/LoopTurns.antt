-- Paths of an automaton over a loop are walks between pairs of a position and a state, and turns of one are turns of the other.
use Rattle.std.proofs.Common.{◌≡◌, ◌∙◌, ℕ, zero, suc, ◌+◌, ◌*◌, ◌/◌, ◌%◌, ◌<◌, ◌≤◌, inl, inr, ◌⊎◌, Bool, true, false, ◌||◌, cond, eqb}
use Rattle.std.proofs.Common.{List, [], ◌∷◌, length, Option, Some, Contains, refl, sym, ap, subst, arith}
use Rattle.std.specs.List.{list_any, AllByRecursion, IsDistinct}
use Rattle.std.proofs.lemmas.Bool.{false≢true, or_cases, eqb-true}
use Rattle.std.proofs.lemmas.Nat.{div-mul-add, mod-mul-add, mul-le}
use Rattle.std.proofs.lemmas.Map.Steps.{length-le_from_distinct_below}
use Rattle.loop_shape.specs.LoopShape.{IsPosition, after, steps_on}
use Rattle.loop_shape.proofs.Steps.{after_position}
use Rattle.ltl_formula.specs.LetterLoop.{LetterLoop, shape_of, letter_at}
use Rattle.ltl_formula.specs.Cubes.{cube_matches}
use Rattle.cobuchi_automata.specs.Automata.{EdgeTree}
use Rattle.cobuchi_automata.specs.Paths.{IsPath, rejections, end_of}
use Rattle.loop_acceptance.specs.declared.product.Step.{Step}
use Rattle.loop_acceptance.specs.Accepts.{Accepts}
use Rattle.loop_acceptance.specs.internal.Graph.{StepsTo, Rejects, IsWalk, WalksTo, TurnFrom}
use Rattle.loop_acceptance.proofs.Walks.{reach_itself, reach_both, reach_first}

-- the number of a pair
abbrev pub node : ℕ → ℕ → ℕ → ℕ
node states i q = i * states + q

-- an edge may be taken at a position in a state
pub record IsTaken (edges : List EdgeTree) (loop : LetterLoop) (i q : ℕ) (e : EdgeTree) : Type 0 where
  pub stands : Contains edges e
  pub leaves : e.from ≡ q
  pub letter : ℕ
  pub reads : letter_at loop i ≡ Some letter
  pub matches : cube_matches e.care e.want letter ≡ true

-- a step goes along an edge from a position
pub record GoesAlong (states : ℕ) (loop : LetterLoop) (i : ℕ) (e : EdgeTree) (s : Step) : Type 0 where
  pub to : s.to ≡ node states (after (shape_of loop) i) e.to
  pub marked : s.rejecting ≡ e.rejecting

-- the steps of pairs are the edges that may be taken there, which lead to states
pub record IsLoopGraph (states : ℕ) (edges : List EdgeTree) (loop : LetterLoop) (step : ℕ → ℕ → Option Step) : Type 0 where
  pub starts : 1 ≤ states
  pub goes_round : 1 ≤ length loop.cycle
  pub stays : (e : EdgeTree) → Contains edges e → e.to < states
  pub has : (i q : ℕ) (e : EdgeTree) → q < states → IsTaken edges loop i q e →
      (k : ℕ) × (s : Step) × (step (node states i q) k ≡ Some s) × GoesAlong states loop i e s
  pub only : (i q k : ℕ) (s : Step) → q < states → step (node states i q) k ≡ Some s →
      (e : EdgeTree) × IsTaken edges loop i q e × GoesAlong states loop i e s

module _ (states : ℕ) (edges : List EdgeTree) (loop : LetterLoop) (step : ℕ → ℕ → Option Step) (graph : IsLoopGraph states edges loop step)
  where
    abbrev at : ℕ → ℕ → ℕ
    at = node states

    abbrev next : ℕ → ℕ
    next = after (shape_of loop)

    taken : (i q : ℕ) (e : EdgeTree) (es : List EdgeTree) → IsPath edges loop q i (e ∷ es) → IsTaken edges loop i q e
    taken i q e es path = record {
      stands = path.0;
      leaves = path.1;
      letter = path.2.0;
      reads = path.2.1;
      matches = path.2.2;
    }

    leads : (i q : ℕ) (e : EdgeTree) → q < states → IsTaken edges loop i q e → StepsTo step (at i q) (at (next i) e.to)
    leads i q e below is = let r = graph.has i q e below is in (r.0, r.1, r.2, r.3.to)

    rejects : (i q : ℕ) (e : EdgeTree) → q < states → IsTaken edges loop i q e → e.rejecting ≡ true →
        Rejects step (at i q) (at (next i) e.to)
    rejects i q e below is marked = let r = graph.has i q e below is in (r.0, r.1, r.2, r.3.to, r.3.marked ∙ marked)

    -- ---- from paths to walks

    ends_below : (es : List EdgeTree) (i q : ℕ) → q < states → IsPath edges loop q i es → end_of q es < states
    ends_below [] i q below path = below
    ends_below (e ∷ es) i q below path = ends_below es (next i) e.to (graph.stays e path.0) path.3

    path_walk : (es : List EdgeTree) (i q : ℕ) → q < states → IsPath edges loop q i es →
        WalksTo step (at i q) (at (steps_on (shape_of loop) (length es) i) (end_of q es))
    path_walk [] i q below path = reach_itself step (at i q)
    path_walk (e ∷ es) i q below path =
        reach_first step (at i q) (at (next i) e.to) (at (steps_on (shape_of loop) (length es) (next i)) (end_of e.to es))
        (leads i q e below (taken i q e es path)) (path_walk es (next i) e.to (graph.stays e path.0) path.3)

    -- a rejecting step of a walk
    record Passes (p r : ℕ) : Type 0 where
      here : ℕ
      there : ℕ
      before : WalksTo step p here
      passed : Rejects step here there
      later : WalksTo step there r

    pass_later : (p q r : ℕ) → StepsTo step p q → Passes q r → Passes p r
    pass_later p q r first passes = record {
      here = passes.here;
      there = passes.there;
      before = reach_first step p q passes.here first passes.before;
      passed = passes.passed;
      later = passes.later;
    }

    path_passes : (es : List EdgeTree) (i q : ℕ) → q < states → IsPath edges loop q i es → 1 ≤ rejections es →
        Passes (at i q) (at (steps_on (shape_of loop) (length es) i) (end_of q es))
    path_passes [] i q below path some = absurd (omega (arith, some))
    path_passes (e ∷ es) i q below path some =
        by e.rejecting refl some (path_passes es (next i) e.to (graph.stays e path.0) path.3)
      where
        by : (b : Bool) → e.rejecting ≡ b → 1 ≤ cond b 1 0 + rejections es
            → (1 ≤ rejections es → Passes (at (next i) e.to) (at (steps_on (shape_of loop) (length es) (next i)) (end_of e.to es)))
            → Passes (at i q) (at (steps_on (shape_of loop) (length es) (next i)) (end_of e.to es))
        by true is some rest = record {
          here = at i q;
          there = at (next i) e.to;
          before = reach_itself step (at i q);
          passed = rejects i q e below (taken i q e es path) is;
          later = path_walk es (next i) e.to (graph.stays e path.0) path.3;
        }
        by false is some rest =
            pass_later (at i q) (at (next i) e.to) (at (steps_on (shape_of loop) (length es) (next i)) (end_of e.to es))
            (leads i q e below (taken i q e es path)) (rest (omega (arith, some)))

    start_is : 0 ≡ at 0 0
    start_is = omega arith

    pub accepted_turns : Accepts edges loop → TurnFrom step 0
    accepted_turns accepts =
        let turning = accepts.2 in
        let place = steps_on (shape_of loop) (length accepts.0) 0 in
        let state = end_of 0 accepts.0 in
        let below = ends_below accepts.0 0 0 graph.starts turning.to_turn in
        let passes = path_passes accepts.1 place state below turning.turns turning.rejects in
        let again : WalksTo step passes.there (at place state) =
        subst (λ i. WalksTo step passes.there (at i state)) turning.same_position
        (subst (λ q. WalksTo step passes.there (at (steps_on (shape_of loop) (length accepts.1) place) q)) turning.same_state
        passes.later) in
        record {
          node = passes.here;
          next = passes.there;
          reached = subst (λ n. WalksTo step n passes.here) (sym start_is)
              (reach_both step (at 0 0) (at place state) passes.here (path_walk accepts.0 0 0 graph.starts turning.to_turn) passes.before);
          rejects = passes.passed;
          back = reach_both step passes.there (at place state) passes.here again passes.before;
        }

    -- ---- from walks to paths

    -- a path from a pair to a node
    record PathTo (i q r : ℕ) : Type 0 where
      path : List EdgeTree
      follows : IsPath edges loop q i path
      ends : at (steps_on (shape_of loop) (length path) i) (end_of q path) ≡ r

    path_first : (i q r : ℕ) (e : EdgeTree) → IsTaken edges loop i q e → PathTo (next i) e.to r → PathTo i q r
    path_first i q r e is rest = record {
      path = e ∷ rest.path;
      follows = (is.stands, is.leaves, (is.letter, is.reads, is.matches), rest.follows);
      ends = rest.ends;
    }

    walk_path : (n i q p r : ℕ) → q < states → p ≡ at i q → IsWalk step n p r → PathTo i q r
    walk_path zero i q p r below is walk = record { path = []; follows = tt; ends = sym is ∙ walk }
    walk_path (suc n) i q p r below is walk =
        let first = walk.1 in
        let along = graph.only i q first.0 first.1 below (ap (λ m. step m first.0) (sym is) ∙ first.2) in
        path_first i q r along.0 along.1
        (walk_path n (next i) along.0.to walk.0 r (graph.stays along.0 along.1.stands) (sym first.3 ∙ along.2.to) walk.2)

    same_state : (i j q r : ℕ) → q < states → r < states → at i q ≡ at j r → q ≡ r
    same_state i j q r below_q below_r same =
        sym (mod-mul-add i states q below_q) ∙ ap (λ n. n % states) same ∙ mod-mul-add j states r below_r

    same_position : (i j q r : ℕ) → q < states → r < states → at i q ≡ at j r → i ≡ j
    same_position i j q r below_q below_r same =
        sym (div-mul-add i states q below_q) ∙ ap (λ n. n / states) same ∙ div-mul-add j states r below_r

    pub turns_accepted : TurnFrom step 0 → Accepts edges loop
    turns_accepted turn =
        let stem = walk_path turn.reached.0 0 0 0 turn.node graph.starts start_is turn.reached.1 in
        let place = steps_on (shape_of loop) (length stem.path) 0 in
        let state = end_of 0 stem.path in
        let below = ends_below stem.path 0 0 graph.starts stem.follows in
        let first = turn.rejects in
        let along = graph.only place state first.0 first.1 below (ap (λ m. step m first.0) stem.ends ∙ first.2) in
        let e = along.0 in
        let there = graph.stays e along.1.stands in
        let rest = walk_path turn.back.0 (next place) e.to turn.next turn.node there (sym first.3 ∙ along.2.to) turn.back.1 in
        let ends = rest.ends ∙ sym stem.ends in
        let end_below = ends_below rest.path (next place) e.to there rest.follows in
        let marked : e.rejecting ≡ true = sym along.2.marked ∙ first.4 in
        let one : cond {A = ℕ} e.rejecting 1 0 ≡ 1 = ap (λ b. cond b 1 0) marked in (
          stem.path,
          e ∷ rest.path,
          record {
            to_turn = stem.follows;
            turns = (along.1.stands, along.1.leaves, (along.1.letter, along.1.reads, along.1.matches), rest.follows);
            same_state = same_state (steps_on (shape_of loop) (length rest.path) (next place)) place (end_of e.to rest.path) state
                end_below below ends;
            same_position = same_position (steps_on (shape_of loop) (length rest.path) (next place)) place (end_of e.to rest.path) state
                end_below below ends;
            rejects = omega (arith, one);
          },
        )

    -- ---- a path that passes more rejecting edges than there are pairs turns

    -- the pairs at which a path passes rejecting edges
    abbrev visits : ℕ → ℕ → List EdgeTree → List ℕ
    visits i q [] = []
    visits i q (e ∷ es) = cond e.rejecting (at i q ∷ visits (next i) e.to es) (visits (next i) e.to es)

    visits_many : (es : List EdgeTree) (i q : ℕ) → length (visits i q es) ≡ rejections es
    visits_many [] i q = refl
    visits_many (e ∷ es) i q = by e.rejecting (visits_many es (next i) e.to)
      where
        by : (b : Bool) → length (visits (next i) e.to es) ≡ rejections es
            → length (cond b (at i q ∷ visits (next i) e.to es) (visits (next i) e.to es)) ≡ cond b 1 0 + rejections es
        by true same = omega (arith, same)
        by false same = omega (arith, same)

    visited : (es : List EdgeTree) (i q n : ℕ) → q < states → IsPath edges loop q i es → list_any (eqb n) (visits i q es) ≡ true →
        WalksTo step (at i q) n
    visited [] i q n below path there = absurd (false≢true there)
    visited (e ∷ es) i q n below path there = by e.rejecting there (λ later. reach_first step (at i q) (at (next i) e.to) n
        (leads i q e below (taken i q e es path)) (visited es (next i) e.to n (graph.stays e path.0) path.3 later))
      where
        by : (b : Bool) → list_any (eqb n) (cond b (at i q ∷ visits (next i) e.to es) (visits (next i) e.to es)) ≡ true
            → (list_any (eqb n) (visits (next i) e.to es) ≡ true → WalksTo step (at i q) n) → WalksTo step (at i q) n
        by true there rest = elim (or_cases (eqb n (at i q)) (list_any (eqb n) (visits (next i) e.to es)) there) [
          | inl here ↦ subst (WalksTo step (at i q)) (sym (eqb-true n (at i q) here)) (reach_itself step (at i q))
          | inr later ↦ rest later
        ]
        by false there rest = rest there

    none_same : (n : ℕ) (ns : List ℕ) → list_any (eqb n) ns ≡ false → AllByRecursion (λ m. eqb n m ≡ false) ns
    none_same n [] none = tt
    none_same n (m ∷ ns) none = by (eqb n m) refl none (none_same n ns)
      where
        by : (b : Bool) → eqb n m ≡ b → (b || list_any (eqb n) ns) ≡ false
            → (list_any (eqb n) ns ≡ false → AllByRecursion (λ k. eqb n k ≡ false) ns) → AllByRecursion (λ k. eqb n k ≡ false) (m ∷ ns)
        by true is none rest = absurd (false≢true (sym none))
        by false is none rest = (is, rest none)

    turn_later : (p q : ℕ) → StepsTo step p q → TurnFrom step q → TurnFrom step p
    turn_later p q first turn = record {
      node = turn.node;
      next = turn.next;
      reached = reach_first step p q turn.node first turn.reached;
      rejects = turn.rejects;
      back = turn.back;
    }

    turns_or_differs : (es : List EdgeTree) (i q : ℕ) → q < states → IsPath edges loop q i es →
        TurnFrom step (at i q) ⊎ IsDistinct eqb (visits i q es)
    unfolding IsDistinct
    turns_or_differs [] i q below path = inr tt
    turns_or_differs (e ∷ es) i q below path = elim (turns_or_differs es (next i) e.to (graph.stays e path.0) path.3) [
      | inl turn ↦ inl (turn_later (at i q) (at (next i) e.to) (leads i q e below (taken i q e es path)) turn)
      | inr differ ↦ by e.rejecting refl differ (list_any (eqb (at i q)) (visits (next i) e.to es)) refl
    ]
      where
        by : (b : Bool) → e.rejecting ≡ b → IsDistinct eqb (visits (next i) e.to es) → (again : Bool)
            → list_any (eqb (at i q)) (visits (next i) e.to es) ≡ again
            → TurnFrom step (at i q) ⊎ IsDistinct eqb (cond b (at i q ∷ visits (next i) e.to es) (visits (next i) e.to es))
        by false is differ again found = inr differ
        by true is differ true found = inl (record {
          node = at i q;
          next = at (next i) e.to;
          reached = reach_itself step (at i q);
          rejects = rejects i q e below (taken i q e es path) is;
          back = visited es (next i) e.to (at i q) (graph.stays e path.0) path.3 found;
        })
        by true is differ false found = inr (none_same (at i q) (visits (next i) e.to es) found, differ)

    abbrev positions : ℕ
    positions = length loop.stem + length loop.cycle

    pair_below : (i q : ℕ) → i < positions → q < states → at i q < positions * states
    pair_below i q within below =
        let more = mul-le (suc i) states positions states within (omega arith) in
        let one : suc i * states ≡ i * states + states = grind arith in
        omega (arith, more, one, below)

    visits_below : (es : List EdgeTree) (i q : ℕ) → IsPosition (shape_of loop) i → q < states → IsPath edges loop q i es →
        (n : ℕ) → list_any (eqb n) (visits i q es) ≡ true → n < positions * states
    visits_below [] i q position below path n there = absurd (false≢true there)
    visits_below (e ∷ es) i q position below path n there = by e.rejecting there
        (visits_below es (next i) e.to (after_position (shape_of loop) i position) (graph.stays e path.0) path.3 n)
      where
        by : (b : Bool) → list_any (eqb n) (cond b (at i q ∷ visits (next i) e.to es) (visits (next i) e.to es)) ≡ true
            → (list_any (eqb n) (visits (next i) e.to es) ≡ true → n < positions * states) → n < positions * states
        by true there rest = elim (or_cases (eqb n (at i q)) (list_any (eqb n) (visits (next i) e.to es)) there) [
          | inl here ↦ subst (λ m. m < positions * states) (sym (eqb-true n (at i q) here)) (pair_below i q position.within below)
          | inr later ↦ rest later
        ]
        by false there rest = rest there

    pub many_rejections_turn : (es : List EdgeTree) → IsPath edges loop 0 0 es → positions * states + 1 ≤ rejections es → TurnFrom step 0
    many_rejections_turn es path many = elim (turns_or_differs es 0 0 graph.starts path) [
      | inl turn ↦ subst (TurnFrom step) (sym start_is) turn
      | inr differ ↦
          let start : IsPosition (shape_of loop) 0 = record {
            goes_on = graph.goes_round;
            within = (let g = graph.goes_round in omega (arith, g));
          } in
          let few = length-le_from_distinct_below (visits 0 0 es) (positions * states) differ (visits_below es 0 0 start graph.starts
          path) in
          let count = visits_many es 0 0 in
          absurd (omega (arith, few, count, many))
    ]
