-- The clauses are over the variables that are counted.
use Rattle.std.proofs.Common.{◌≡◌, ◌<◌, ◌≤◌, ◌+◌, ◌-◌, ℕ, zero, suc, List, [], ◌∷◌, ◌++◌, map, filter, not, Bool, true, false, cond, arith, All, length, refl}
use Rattle.std.specs.Prelude.{nat_le}
use Rattle.std.specs.List.{flat_map, range_with_len, AllByRecursion}
use Rattle.std.proofs.lemmas.List.Elements.{All-from_recursion}
use Rattle.base_library.proofs.Each.{each_map, each_weaker}
use Rattle.ltl_formula.specs.Cubes.{has_bit}
use Rattle.clause_core.specs.Literals.{Lit}
use Rattle.clause_core.specs.Clauses.{IsOver, in_order, has_pair}
use Rattle.clause_core.proofs.Sets.{All-in_order}
use Rattle.cobuchi_automata.specs.Automata.{EdgeTree}
use Rattle.annotation_check.specs.Annotations.{after_edge}
use Rattle.bounded_encoding.specs.Question.{QuestionTree, IsPosed, JoinsStates}
use Rattle.bounded_encoding.specs.ClauseLists.{kept, each, below}
use Rattle.bounded_encoding.specs.SimpleClauses.{yes_at, no_at, some_one, no_two, no_two_with, exactly_one, falling}
use Rattle.bounded_encoding.specs.Grids.{cell_index, one_in_row, falling_in_row}
use Rattle.bounded_encoding.specs.Frames.{FrameTree, next_at, number_at, variables_of, next_grid, number_grid}
use Rattle.bounded_encoding.specs.Sides.{SideTree, IsSide, differing, numbered, clause_along, clauses_to, clauses_under, clauses_along, clauses_in}
use Rattle.bounded_encoding.specs.Sides.{clauses_of_nexts, clauses_of_start, clauses_of_numbers, clauses_of_edges, clauses_of_side}
use Rattle.bounded_encoding.specs.Variables.{Variable, chooses, goes_to, is_numbered, IsInRange, index_of, variable_count, valuations_of, choices_in_all}
use Rattle.bounded_encoding.specs.Encoding.{first_choice, signal_clauses, choices_under, choices_in, choice_clauses, controller_side, demands, encoding}
use Rattle.bounded_encoding.specs.internal.Asking.{IsPlaced}
use Rattle.bounded_encoding.proofs.Adding.{row}
use Rattle.bounded_encoding.proofs.Placed.{all_placed}
use Rattle.bounded_encoding.proofs.Gathering.{below_filtered, met_below}

-- over the first n variables, by recursion
abbrev pub Over : ℕ → List (List Lit) → Type 0
Over n cs = AllByRecursion (λ c. AllByRecursion (λ l. l.index < n) c) cs

pub over_both : (n : ℕ) (xs ys : List (List Lit)) → Over n xs → Over n ys → Over n (xs ++ ys)
over_both n [] ys h g = g
over_both n (x ∷ xs) ys h g = (h.0, over_both n xs ys h.1 g)

pub over_range : (n : ℕ) (f : ℕ → List (List Lit)) (a k : ℕ) → ((x : ℕ) → a ≤ x → x < a + k → Over n (f x))
    → Over n (flat_map f (range_with_len a k))
over_range n f a zero h = tt
over_range n f a (suc k) h = over_both n (f a) (flat_map f (range_with_len (a + 1) k)) (h a (omega arith) (omega arith))
    (over_range n f (a + 1) k (λ x l m. h x (omega (arith, l)) (omega (arith, m))))

pub over_each : (n : ℕ) (f : ℕ → List (List Lit)) (a b : ℕ) → ((x : ℕ) → a ≤ x → x < b → Over n (f x)) → Over n (each a b f)
over_each n f a b h = over_range n f a (b - a) (λ x l m. h x l (omega (arith, l, m)))

pub over_list : {X : Type 0} (n : ℕ) (P : X → Type 0) (f : X → List (List Lit)) (xs : List X) → ((x : X) → P x → Over n (f x))
    → AllByRecursion P xs → Over n (flat_map f xs)
over_list n P f [] h a = tt
over_list n P f (x ∷ xs) h a = over_both n (f x) (flat_map f xs) (h x a.0) (over_list n P f xs h a.1)

pub literals_both : (n : ℕ) (xs ys : List Lit) → AllByRecursion (λ l. l.index < n) xs → AllByRecursion (λ l. l.index < n) ys
    → AllByRecursion (λ l. l.index < n) (xs ++ ys)
literals_both n [] ys h g = g
literals_both n (x ∷ xs) ys h g = (h.0, literals_both n xs ys h.1 g)

pub over_some : (n : ℕ) (f : ℕ → Lit) (a k : ℕ) → ((x : ℕ) → a ≤ x → x < a + k → (f x).index < n)
    → AllByRecursion (λ l. l.index < n) (map f (range_with_len a k))
over_some n f a zero h = tt
over_some n f a (suc k) h = (h a (omega arith) (omega arith), over_some n f (a + 1) k (λ x l m. h x (omega (arith, l)) (omega (arith, m))))

pub over_kept : (n : ℕ) (cs : List (List Lit)) → Over n cs → Over n (kept cs)
over_kept n [] h = tt
over_kept n (c ∷ cs) h = by_test (over_kept n cs h.1) (not (has_pair (in_order c)))
  where
    by_test : Over n (kept cs) → (t : Bool) → Over n (cond t (in_order c ∷ kept cs) (kept cs))
    by_test later true = (All-in_order (λ l. l.index < n) c h.0, later)
    by_test later false = later

pub over_one : (n : ℕ) (at : ℕ → ℕ) (a b : ℕ) → ((x : ℕ) → x < b → at x < n) → Over n (exactly_one at a b)
over_one n at a b h = over_both n (some_one at a b) (no_two at a b)
    (over_some n (λ x. yes_at (at x)) a (b - a) (λ x l m. h x (omega (arith, l, m))), tt)
    (over_each n (λ x. no_two_with at x b) a b
    (λ x l m. over_each n (λ y. (no_at (at x) ∷ no_at (at y) ∷ []) ∷ []) (x + 1) b (λ y k j. ((h x m, (h y j, tt)), tt))))

pub over_falling : (n : ℕ) (at : ℕ → ℕ) (k : ℕ) → ((x : ℕ) → x < k + 1 → at x < n) → Over n (falling at k)
over_falling n at k h = over_each n (λ i. (no_at (at i) ∷ yes_at (at (i - 1)) ∷ []) ∷ []) 1 (k + 1)
    (λ i l m. ((h i m, (h (i - 1) (omega (arith, m)), tt)), tt))

-- the indices of next states and of numbers are below the count of all
pub next_below : (f : FrameTree) (s r t : ℕ) → s < f.states → r < f.rows → t < f.states → next_at f s r t < variables_of f
next_below f s r t l m k = omega (arith, row f.states f.rows f.states s r l m, k)

pub number_below : (f : FrameTree) (s p i : ℕ) → s < f.states → p < f.automaton_states → i < f.bound + 1 → number_at f s p i < variables_of f
number_below f s p i l m k = omega (arith, row f.states f.automaton_states (f.bound + 1) s p l m, k)

-- the clauses of a side
module _ (z : SideTree) (side : IsSide z) where
  abbrev f : FrameTree
  f = z.frame

  abbrev count : ℕ
  count = variables_of z.frame

  over_differing : (e : EdgeTree) (s r : ℕ) → s < f.states → r < f.rows →
      AllByRecursion (λ l. l.index < count) (differing (z.base s r) f.first_bit f.bits e)
  over_differing e s r l m = each_map (λ l. l.index < count)
      (λ b. record { index = z.base s r + b; positive = not (has_bit (f.first_bit + b) e.want) })
      (filter (λ b. has_bit (f.first_bit + b) e.care) (below f.bits))
      (each_weaker (λ b. b < f.bits) (λ b. z.base s r + b < count) (λ b k. omega (arith, side.base s r l m, k))
      (filter (λ b. has_bit (f.first_bit + b) e.care) (below f.bits))
      (below_filtered f.bits (λ b. has_bit (f.first_bit + b) e.care) 0 f.bits (omega arith)))

  over_numbered : (t p n : ℕ) → t < f.states → p < f.automaton_states → AllByRecursion (λ l. l.index < count) (numbered f t p n)
  over_numbered t p n l m = by_test (nat_le n f.bound) refl
    where
      by_test : (within : Bool) → nat_le n f.bound ≡ within →
          AllByRecursion (λ l. l.index < count) (cond within (yes_at (number_at f t p n) ∷ []) [])
      by_test true h = (number_below f t p n l m (grind (arith, h)), tt)
      by_test false h = tt

  over_clause : (e : EdgeTree) (s r t i : ℕ) → s < f.states → r < f.rows → t < f.states → i < f.bound + 1 →
      JoinsStates f.automaton_states e → Over count (clause_along f (differing (z.base s r) f.first_bit f.bits e) s e r t i ∷ [])
  over_clause e s r t i l m k j joins = (
    (
      number_below f s e.from i l joins.0 j,
      (
        next_below f s r t l m k,
        literals_both count (differing (z.base s r) f.first_bit f.bits e) (numbered f t e.to (after_edge i e)) (over_differing e s r l m)
            (over_numbered t e.to (after_edge i e) k joins.1),
      ),
    ),
    tt,
  )

  over_edges : Over count (clauses_of_edges z)
  over_edges = over_each count (clauses_in z) 0 f.states (λ s a l.
      over_list count (JoinsStates f.automaton_states) (clauses_along z s) f.edges (λ e joins.
      over_list count (λ r. r < f.rows) (clauses_under z s e) (z.met e) (λ r m.
      over_each count (clauses_to f (differing (z.base s r) f.first_bit f.bits e) s e r) 0 f.states (λ t b k.
      over_each count (λ i. clause_along f (differing (z.base s r) f.first_bit f.bits e) s e r t i ∷ []) 0 (f.bound + 1)
      (λ i d j. over_clause e s r t i l m k j joins)))
      (side.met e)) side.between)

  pub over_side : Over count (clauses_of_side z)
  over_side =
      over_both count (clauses_of_nexts f) (clauses_of_start f ++ (clauses_of_numbers f ++ clauses_of_edges z))
      (over_each count (one_in_row (next_grid f)) 0 f.states (λ s a l.
      over_each count (λ r. exactly_one (cell_index (next_grid f) s r) 0 f.states) 0 f.rows (λ r b m.
      over_one count (next_at f s r) 0 f.states (λ t k. next_below f s r t l m k)))) (
        (number_below f 0 0 0 side.has_state side.automaton_starts (omega arith), tt),
        over_both count (clauses_of_numbers f) (clauses_of_edges z)
            (over_each count (falling_in_row (number_grid f) f.bound) 0 f.states (λ s a l.
            over_each count (λ p. falling (cell_index (number_grid f) s p) f.bound) 0 f.automaton_states (λ p b m.
            over_falling count (number_at f s p) f.bound (λ i k. number_below f s p i l m k)))) over_edges,
      )

-- the controller's side
pub is_controller_side : (q : QuestionTree) → IsPosed q → IsSide (controller_side q)
is_controller_side q posed = record {
  has_state = posed.has_state;
  automaton_starts = posed.automaton_starts;
  between = posed.between;
  met = met_below q;
  base = λ s v l m. row q.states (valuations_of q) (choices_in_all q) s v l m;
}

-- the index of a variable is below their count
pub index_below : (q : QuestionTree) (x : Variable) → IsInRange q x → index_of q x < variable_count q
index_below q (chooses s v b) h = omega (arith, row q.states (valuations_of q) (choices_in_all q) s v h.0 h.1, h.2)
index_below q (goes_to s v t) h = omega (arith, row q.states (valuations_of q) q.states s v h.0 h.1, h.2)
index_below q (is_numbered s p i) h = omega (arith, row q.states q.automaton_states (q.bound + 1) s p h.0 h.1, h.2)

pub over_choices : (q : QuestionTree) → IsPosed q → Over (variable_count q) (choice_clauses q)
over_choices q h = over_each (variable_count q) (choices_in q) 0 q.states
    (λ s a l. over_each (variable_count q) (choices_under q s) 0 (valuations_of q) (λ v b m.
    over_list (variable_count q) (IsPlaced q) (signal_clauses q s v) q.space.controlled (λ g placed.
    over_one (variable_count q) (λ b. index_of q (chooses s v b)) (first_choice q g) (first_choice q g + length g.choices)
    (λ x k. index_below q (chooses s v x) (l, m, omega (arith, placed.0, placed.1, k)))) (all_placed q h.space.in_order)))

-- as the formula's type says it
pub all_over : (n : ℕ) (cs : List (List Lit)) → Over n cs → All (IsOver n) cs
all_over n cs h = All-from_recursion (IsOver n) cs (turned cs h)
  where
    turned : (cs : List (List Lit)) → Over n cs → AllByRecursion (IsOver n) cs
    turned [] h = tt
    turned (c ∷ cs) h = (All-from_recursion (λ l. l.index < n) c h.0, turned cs h.1)

pub encoding_over : (q : QuestionTree) → IsPosed q → All (IsOver (variable_count q)) (encoding q)
encoding_over q h = all_over (variable_count q) (encoding q) (over_kept (variable_count q) (demands q)
    (over_both (variable_count q) (choice_clauses q) (clauses_of_side (controller_side q)) (over_choices q h)
    (over_side (controller_side q) (is_controller_side q h))))
