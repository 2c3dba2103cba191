-- The steps between pairs, one edge and one state after another.
use Rattle.std.proofs.Common.{◌≡◌, ◌∙◌, ℕ, ◌+◌, ◌*◌, ◌/◌, ◌%◌, ◌<◌, ◌≤◌, inl, inr, Bool, true, false, cond, ◌&&◌, ◌==◌, List, [], ◌∷◌}
use Rattle.std.proofs.Common.{◌++◌, length, map, take, set, get_or, Some, slice_get, Vec, add-one, append-nil, refl, sym, ap, arith}
use Rattle.std.proofs.Common.{eq-eqb, length-append}
use Rattle.std.specs.Prelude.{unwrap_or, option_map}
use Rattle.std.specs.declared.alloc.Global.{Global}
use Rattle.std.proofs.Math.Nat.{div-add-mod}
use Rattle.std.proofs.lemmas.Nat.{mul-add-lt, div-mul-add, mod-mul-add}
use Rattle.std.proofs.lemmas.Bool.{eqb-true, and_parts, and_from, cases_lt, ne_eqb}
use Rattle.std.proofs.lemmas.Bool.Decides.{eqb_tells}
use Rattle.std.proofs.lemmas.List.{append_assoc, map-append, map_push}
use Rattle.std.proofs.lemmas.Option.{slice_get-map, slice_get-get_or, slice_get_past}
use Rattle.base_library.proofs.Booleans.{same_tests}
use Rattle.base_library.proofs.Passes.{filter_push}
use Rattle.base_library.proofs.Places.{slice_get-front, slice_get-behind, slice_get_set, slice_get_set_same, take_next}
use Rattle.ltl_formula.specs.Cubes.{cube_matches}
use Rattle.cobuchi_automata.specs.Automata.{EdgeTree}
use Rattle.machines.specs.Moves.{MoveTree}
use Rattle.machines.specs.MachineView.{move_tree}
use Rattle.machines.specs.declared.moves.Move.{Move}
use Rattle.annotation_check.specs.Annotations.{edges_from}
use Rattle.full_bound.specs.declared.search.Step.{Step}
use Rattle.full_bound.specs.internal.Pairs.{PairStep, edge_steps, steps_between, pair_steps}
use Rattle.full_bound.specs.internal.PairTable.{listed_step, steps_of_state}
use Rattle.full_bound.specs.internal.Search.{steps_from}

-- ---- lists by pair

at_row : (table : List (Vec Step Global)) (p : ℕ) (v : Vec Step Global) → slice_get table p ≡ Some v → steps_from table p ≡ v.items
at_row table p v at =
    ap (λ o. unwrap_or o []) (slice_get-map (λ (u : Vec Step Global). u.items) table p
    ∙ ap (option_map (λ (u : Vec Step Global). u.items)) at)

as_row : (old new : List (Vec Step Global)) (p : ℕ) → slice_get new p ≡ slice_get old p → steps_from new p ≡ steps_from old p
as_row old new p same =
    ap (λ o. unwrap_or o []) (slice_get-map (λ (u : Vec Step Global). u.items) new p
    ∙ ap (option_map (λ (u : Vec Step Global). u.items)) same ∙ sym (slice_get-map (λ (u : Vec Step Global). u.items) old p))

-- an empty list more
pub none_more : (table : List (Vec Step Global)) (v : Vec Step Global) → v.items ≡ [] → ((p : ℕ) → steps_from table p ≡ []) → (p : ℕ) →
    steps_from (table ++ v ∷ []) p ≡ []
none_more table v empty none p = elim (cases_lt p (length table)) [
  | inl before ↦ as_row table (table ++ v ∷ []) p (slice_get-front table (v ∷ []) p before) ∙ none p
  | inr past ↦ elim (eqb_tells p (length table)) [
    | inl same ↦ at_row (table ++ v ∷ []) p v (ap (slice_get (table ++ v ∷ [])) same.1 ∙ slice_get-behind table v []) ∙ empty
    | inr other ↦
        let long = length-append table (v ∷ []) in
        let far : length (table ++ v ∷ []) ≤ p = omega (arith, long, past, other.1) in
        ap (λ o. unwrap_or o []) (slice_get-map (λ (u : Vec Step Global). u.items) (table ++ v ∷ []) p
        ∙ ap (option_map (λ (u : Vec Step Global). u.items)) (slice_get_past (table ++ v ∷ []) p far))
  ]
]

-- more steps from one pair
row_more : (table : List (Vec Step Global)) (k : ℕ) (old new : Vec Step Global) (more : List Step) → k < length table →
    old ≡ get_or table k old →
    new.items ≡ old.items ++ more → (p : ℕ) → steps_from (set table k new) p ≡ steps_from table p ++ cond (p == k) more []
row_more table k old new more within is added p = elim (eqb_tells p k) [
  | inl same ↦
      let here = slice_get-get_or table k old within ∙ ap Some (sym is) in
      at_row (set table k new) p new (ap (slice_get (set table k new)) same.1 ∙ slice_get_set_same table k new within) ∙ added
      ∙ (λ i. sym (at_row table p old (ap (slice_get table) same.1 ∙ here)) i ++ more)
      ∙ ap (λ b. steps_from table p ++ cond b more []) (sym (eq-eqb p k same.1))
  | inr other ↦
      as_row table (set table k new) p (slice_get_set table k p new other.1) ∙ sym (append-nil (steps_from table p))
      ∙ ap (λ b. steps_from table p ++ cond b more []) (sym (ne_eqb p k other.1))
]

-- ---- steps along an edge

along_push : (e : EdgeTree) (ms : List MoveTree) (m : MoveTree) →
    edge_steps e (ms ++ m ∷ []) ≡ edge_steps e ms ++ cond (cube_matches e.care e.want m.letter) (record { move = m; edge = e } ∷ []) []
along_push e [] m = refl
along_push e (n ∷ ms) m = by (cube_matches e.care e.want n.letter) (along_push e ms m)
  where
    more : List PairStep
    more = cond (cube_matches e.care e.want m.letter) (record { move = m; edge = e } ∷ []) []

    by : (b : Bool) → edge_steps e (ms ++ m ∷ []) ≡ edge_steps e ms ++ more
        → cond b (record { move = n; edge = e } ∷ edge_steps e (ms ++ m ∷ [])) (edge_steps e (ms ++ m ∷ []))
        ≡ cond b (record { move = n; edge = e } ∷ edge_steps e ms) (edge_steps e ms) ++ more
    by true rest = ap (λ ss. record { move = n; edge = e } ∷ ss) rest
    by false rest = rest

module _ (states : ℕ) (e : EdgeTree) (moves : List Move) (i : ℕ) (m : Move) (at : slice_get moves i ≡ Some m) where
  taken_more : map move_tree (take (i + 1) moves) ≡ map move_tree (take i moves) ++ move_tree m ∷ []
  taken_more = ap (λ n. map move_tree (take n moves)) (add-one i) ∙ ap (map move_tree) (take_next moves i m at)
      ∙ map_push move_tree (take i moves) m

  along_by : (b : Bool) → cube_matches e.care e.want m.letter ≡ b →
      map (listed_step states) (edge_steps e (map move_tree (take (i + 1) moves)))
      ≡ map (listed_step states) (edge_steps e (map move_tree (take i moves)))
      ++ map (listed_step states) (cond b (record { move = move_tree m; edge = e } ∷ []) [])
  along_by b is =
      ap (λ ms. map (listed_step states) (edge_steps e ms)) taken_more
      ∙ ap (map (listed_step states)) (along_push e (map move_tree (take i moves)) (move_tree m))
      ∙ map-append (listed_step states) (edge_steps e (map move_tree (take i moves))) (cond (cube_matches e.care e.want m.letter)
      (record { move = move_tree m; edge = e } ∷ []) [])
      ∙ ap (λ c. map (listed_step states) (edge_steps e (map move_tree (take i moves)))
      ++ map (listed_step states) (cond c (record { move = move_tree m; edge = e } ∷ []) [])) is

  -- a move that matches, and one that does not
  pub along_more : (start now new : List Step) → cube_matches e.care e.want m.letter ≡ true →
      now ≡ start ++ map (listed_step states) (edge_steps e (map move_tree (take i moves))) →
      new ≡ now ++ listed_step states (record { move = move_tree m; edge = e }) ∷ [] →
      new ≡ start ++ map (listed_step states) (edge_steps e (map move_tree (take (i + 1) moves)))
  along_more start now new matches so_far is =
      is ∙ ap (λ ss. ss ++ listed_step states (record { move = move_tree m; edge = e }) ∷ []) so_far
      ∙ append_assoc start (map (listed_step states) (edge_steps e (map move_tree (take i moves))))
      (listed_step states (record { move = move_tree m; edge = e }) ∷ [])
      ∙ ap (λ ss. start ++ ss) (sym (along_by true matches))

  pub along_same : (start now new : List Step) → cube_matches e.care e.want m.letter ≡ false →
      now ≡ start ++ map (listed_step states) (edge_steps e (map move_tree (take i moves))) → new ≡ now →
      new ≡ start ++ map (listed_step states) (edge_steps e (map move_tree (take (i + 1) moves)))
  along_same start now new misses so_far is =
      is ∙ so_far ∙ ap (λ ss. start ++ ss) (sym (along_by false misses
      ∙ append-nil (map (listed_step states) (edge_steps e (map move_tree (take i moves))))))

-- pairs have small numbers
pub small_pair : (next states to : ℕ) → next < 64 → states ≤ 4096 → to < states → next * states + to < 262144
small_pair next states to few few_states within = let below = mul-add-lt next states to 64 few within in omega (arith, below, few_states)

-- ---- steps along edges

between_push : (ms : List MoveTree) (es : List EdgeTree) (e : EdgeTree) (b : Bool) →
    steps_between ms (es ++ cond b (e ∷ []) []) ≡ steps_between ms es ++ cond b (edge_steps e ms) []
between_push ms [] e true = append-nil (edge_steps e ms)
between_push ms [] e false = refl
between_push ms (d ∷ es) e b =
    ap (λ ss. edge_steps d ms ++ ss) (between_push ms es e b)
    ∙ sym (append_assoc (edge_steps d ms) (steps_between ms es) (cond b (edge_steps e ms) []))

pub none_between : (es : List EdgeTree) → steps_between [] es ≡ []
none_between [] = refl
none_between (e ∷ es) = none_between es

module _ (states : ℕ) (some_state : 0 < states) (state : ℕ) (ms : List MoveTree) (e : EdgeTree) (within : e.from < states) where
  abbrev own_pair : ℕ
  own_pair = state * states + e.from

  pair_is : (p : ℕ) → (p == own_pair) ≡ ((p / states == state) && (e.from == p % states))
  pair_is p = same_tests _ _
      (λ h.
      let is = eqb-true p own_pair h in
      and_from (p / states == state) (e.from == p % states)
      (eq-eqb (p / states) state (ap (λ n. n / states) is ∙ div-mul-add state states e.from within))
      (eq-eqb e.from (p % states) (sym (ap (λ n. n % states) is ∙ mod-mul-add state states e.from within))))
      (λ h.
      let parts = and_parts (p / states == state) (e.from == p % states) h in
      let quotient = eqb-true (p / states) state parts.0 in
      let rest = eqb-true e.from (p % states) parts.1 in
      let whole = div-add-mod p states in
      let turned : states * (p / states) ≡ state * states = ap (λ n. states * n) quotient ∙ omega arith in
      eq-eqb p own_pair (omega (arith, whole, turned, rest)))

  by_state : (es : List EdgeTree) (p : ℕ) (c b : Bool) →
      cond c (map (listed_step states) (steps_between ms (edges_from es (p % states) ++ cond b (e ∷ []) []))) []
      ≡ cond c (map (listed_step states) (steps_between ms (edges_from es (p % states)))) []
      ++ cond (c && b) (map (listed_step states) (edge_steps e ms)) []
  by_state es p false b = refl
  by_state es p true true =
      ap (map (listed_step states)) (between_push ms (edges_from es (p % states)) e true)
      ∙ map-append (listed_step states) (steps_between ms (edges_from es (p % states))) (edge_steps e ms)
  by_state es p true false =
      ap (map (listed_step states)) (between_push ms (edges_from es (p % states)) e false)
      ∙ map-append (listed_step states) (steps_between ms (edges_from es (p % states))) []

  edge_more : (es : List EdgeTree) (p : ℕ) → steps_of_state states state ms (es ++ e ∷ []) p
      ≡ steps_of_state states state ms es p ++ cond (p == own_pair) (map (listed_step states) (edge_steps e ms)) []
  edge_more es p =
      ap (λ ds. cond (p / states == state) (map (listed_step states) (steps_between ms ds)) []) (filter_push (λ d. d.from == p % states)
      es e)
      ∙ by_state es p (p / states == state) (e.from == p % states)
      ∙ ap (λ b. steps_of_state states state ms es p ++ cond b (map (listed_step states) (edge_steps e ms)) []) (sym (pair_is p))

  -- an edge more, in the table
  pub listed_more : (table : List (Vec Step Global)) (old new : Vec Step Global) (start : ℕ → List Step) (es : List EdgeTree) (i : ℕ) →
      slice_get es i ≡ Some e → own_pair < length table → old ≡ get_or table own_pair old →
      new.items ≡ old.items ++ map (listed_step states) (edge_steps e ms) →
      ((p : ℕ) → steps_from table p ≡ start p ++ steps_of_state states state ms (take i es) p) → (p : ℕ) →
      steps_from (set table own_pair new) p ≡ start p ++ steps_of_state states state ms (take (i + 1) es) p
  listed_more table old new start es i at inside is added so_far p =
      row_more table own_pair old new (map (listed_step states) (edge_steps e ms)) inside is added p
      ∙ ap (λ ss. ss ++ cond (p == own_pair) (map (listed_step states) (edge_steps e ms)) []) (so_far p)
      ∙ append_assoc (start p) (steps_of_state states state ms (take i es) p)
      (cond (p == own_pair) (map (listed_step states) (edge_steps e ms)) [])
      ∙ ap (λ ss. start p ++ ss) (sym (edge_more (take i es) p))
      ∙ ap (λ ds. start p ++ steps_of_state states state ms ds p) (sym (ap (λ n. take n es) (add-one i) ∙ take_next es i e at))

-- ---- states

module _ (states : ℕ) (moves : ℕ → List MoveTree) (es : List EdgeTree) where
  abbrev Listed : (ℕ → List Step) → ℕ → Type 0
  Listed table state =
      ((p : ℕ) → p / states < state → table p ≡ map (listed_step states) (pair_steps states moves es p))
      × ((p : ℕ) → state ≤ p / states → table p ≡ [])

  -- the steps of a state's pairs more
  pub state_more : (old new : ℕ → List Step) (state : ℕ) (ms : List MoveTree) → ms ≡ moves state → Listed old state →
      ((p : ℕ) → new p ≡ old p ++ steps_of_state states state ms es p) → Listed new (state + 1)
  state_more old new state ms are so_far added = (below, past)
    where
      none_at : (p : ℕ) → (p / states ≡ state → ⊥) → steps_of_state states state ms es p ≡ []
      none_at p other =
          ap (λ b. cond b (map (listed_step states) (steps_between ms (edges_from es (p % states)))) []) (ne_eqb (p / states) state other)

      all_at : (p : ℕ) → p / states ≡ state → steps_of_state states state ms es p ≡ map (listed_step states) (pair_steps states moves es p)
      all_at p same =
          ap (λ b. cond b (map (listed_step states) (steps_between ms (edges_from es (p % states)))) []) (eq-eqb (p / states) state same)
          ∙ ap (λ ns. map (listed_step states) (steps_between ns (edges_from es (p % states)))) (are ∙ ap moves (sym same))

      below : (p : ℕ) → p / states < state + 1 → new p ≡ map (listed_step states) (pair_steps states moves es p)
      below p less = elim (cases_lt (p / states) state) [
        | inl before ↦
            added p ∙ ap (λ ss. old p ++ ss) (none_at p (λ same. omega (arith, same, before))) ∙ append-nil (old p) ∙ so_far.0 p before
        | inr last ↦
            let same : p / states ≡ state = omega (arith, last, less) in
            added p ∙ (λ i. so_far.1 p (omega (arith, same)) i ++ all_at p same i)
      ]

      past : (p : ℕ) → state + 1 ≤ p / states → new p ≡ []
      past p more =
          added p ∙ (λ i. so_far.1 p (omega (arith, more)) i ++ none_at p (λ same. omega (arith, same, more)) i)

  -- and all of them, where a state that is none has no move
  pub all_listed : (table : ℕ → List Step) (count : ℕ) → ((s : ℕ) → count ≤ s → moves s ≡ []) → Listed table count → (p : ℕ) →
      table p ≡ map (listed_step states) (pair_steps states moves es p)
  all_listed table count none so_far p = elim (cases_lt (p / states) count) [
    | inl before ↦ so_far.0 p before
    | inr past ↦
        so_far.1 p past
        ∙ sym (ap (map (listed_step states)) (ap (λ ms. steps_between ms (edges_from es (p % states))) (none (p / states) past)
        ∙ none_between (edges_from es (p % states))))
  ]
