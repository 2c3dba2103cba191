-- Which clauses are left out, and how many are kept.
use Rattle.std.proofs.Common.{◌≡◌, ◌≢◌, ◌<◌, ◌≤◌, ◌+◌, ◌-◌, ◌*◌, ℕ, zero, suc, List, [], ◌∷◌, ◌++◌, length, refl, sym, ap, subst, arith, ◌∙◌, true, false, length-append, inl, inr, ◌⊎◌}
use Rattle.std.specs.Prelude.{nat_le}
use Rattle.std.specs.List.{flat_map, range_with_len}
use Rattle.std.proofs.lemmas.Bool.{true≢false, false≢true, or_cases, or_left, or_right, false_from_ne_true}
use Rattle.clause_core.specs.Literals.{Lit, negation, same, has}
use Rattle.clause_core.specs.Clauses.{in_order, has_pair}
use Rattle.clause_core.proofs.Sets.{same_is, same_from, has-append, has-in_order, has_pair_from, pair_from}
use Rattle.cobuchi_automata.specs.Automata.{EdgeTree}
use Rattle.annotation_check.specs.Annotations.{after_edge}
use Rattle.bounded_encoding.specs.Question.{QuestionTree}
use Rattle.bounded_encoding.specs.ClauseLists.{kept, each}
use Rattle.bounded_encoding.specs.SimpleClauses.{yes_at, no_at, falling}
use Rattle.bounded_encoding.specs.Grids.{cell_index, falling_in_row}
use Rattle.bounded_encoding.specs.Frames.{FrameTree, next_at, number_at, number_grid}
use Rattle.bounded_encoding.specs.Sides.{SideTree, differing, numbered, clause_along, clauses_to, clauses_under, clauses_along, clauses_of_nexts}
use Rattle.bounded_encoding.specs.Sides.{clauses_of_start, clauses_of_numbers, clauses_of_edges, clauses_of_side}
use Rattle.bounded_encoding.specs.Encoding.{choice_clauses, controller_side, encoding}
use Rattle.bounded_encoding.specs.Made.{Made, with_clauses}
use Rattle.bounded_encoding.proofs.Adding.{kept_both, with_none}

-- a clause with a pair is left out
pub left_out : (clause : List Lit) (l : Lit) → has clause l ≡ true → has clause (negation l) ≡ true → kept (clause ∷ []) ≡ []
left_out clause l h g =
    let paired : has_pair (in_order clause) ≡ true =
    has_pair_from (in_order clause) l (has-in_order clause l ∙ h) (has-in_order clause (negation l) ∙ g) in
    rw paired refl

-- nothing is kept of lists of which nothing is kept
pub none_kept_range : (f : ℕ → List (List Lit)) (a n : ℕ) → ((x : ℕ) → a ≤ x → x < a + n → kept (f x) ≡ [])
    → kept (flat_map f (range_with_len a n)) ≡ []
none_kept_range f a zero h = refl
none_kept_range f a (suc n) h =
    kept_both (f a) (flat_map f (range_with_len (a + 1) n))
    ∙ rw (h a (omega arith) (omega arith), none_kept_range f (a + 1) n (λ x l m. h x (omega (arith, l)) (omega (arith, m)))) refl

pub none_kept_each : (f : ℕ → List (List Lit)) (a b : ℕ) → ((x : ℕ) → a ≤ x → x < b → kept (f x) ≡ []) → kept (each a b f) ≡ []
none_kept_each f a b h = none_kept_range f a (b - a) (λ x l m. h x l (omega (arith, l, m)))

pub none_kept_list : {X : Type 0} (f : X → List (List Lit)) → ((x : X) → kept (f x) ≡ []) → (xs : List X) → kept (flat_map f xs) ≡ []
none_kept_list f h [] = refl
none_kept_list f h (x ∷ xs) = kept_both (f x) (flat_map f xs) ∙ rw (h x, none_kept_list f h xs) refl

-- from a pair to itself by an edge that is not rejecting, nothing is kept
module _ (f : FrameTree) (unless : List Lit) (e : EdgeTree) (s r : ℕ) (same_state : e.from ≡ e.to) (still : e.rejecting ≡ false) where
  module _ (i : ℕ) (low : i < f.bound + 1) where
    abbrev x : ℕ
    x = number_at f s e.from i

    abbrev after : List Lit
    after = numbered f s e.to (after_edge i e)

    after_is : has after (yes_at x) ≡ true
    after_is =
        let here : after_edge i e ≡ i = rw still (omega arith) in
        let within : nat_le (after_edge i e) f.bound ≡ true = rw here (grind (arith, low)) in
        let there : yes_at (number_at f s e.to (after_edge i e)) ≡ yes_at x
        = (λ k. yes_at (number_at f s (sym same_state k) (here k))) in
        rw within (or_left (same (yes_at (number_at f s e.to (after_edge i e))) (yes_at x)) false
        (same_from (yes_at (number_at f s e.to (after_edge i e))) (yes_at x) there))

    stays_left_out : kept (clause_along f unless s e r s i ∷ []) ≡ []
    stays_left_out = left_out (clause_along f unless s e r s i) (no_at x)
        (or_left (same (no_at x) (no_at x)) (has (no_at (next_at f s r s) ∷ (unless ++ after)) (no_at x)) (same_from (no_at x) (no_at x) refl))
        (or_right (same (no_at x) (yes_at x)) (has (no_at (next_at f s r s) ∷ (unless ++ after)) (yes_at x))
        (or_right (same (no_at (next_at f s r s)) (yes_at x)) (has (unless ++ after) (yes_at x))
        (has-append unless after (yes_at x) ∙ or_right (has unless (yes_at x)) (has after (yes_at x)) after_is)))

  pub nothing_stays : (t : ℕ) → s ≡ t → kept (clauses_to f unless s e r t) ≡ []
  nothing_stays t same_place =
      subst (λ (x : ℕ). kept (clauses_to f unless s e r x) ≡ []) same_place
      (none_kept_each (λ i. clause_along f unless s e r s i ∷ []) 0 (f.bound + 1) (λ i l m. stays_left_out i m))

pub nothing_in_one_state : (z : SideTree) (e : EdgeTree) (s : ℕ) → z.frame.states ≡ 1 → s ≡ 0 → e.from ≡ e.to → e.rejecting ≡ false
    → kept (clauses_along z s e) ≡ []
nothing_in_one_state z e s single start same_state still =
    none_kept_list (clauses_under z s e) (λ r.
    none_kept_each (clauses_to z.frame (differing (z.base s r) z.frame.first_bit z.frame.bits e) s e r) 0 z.frame.states (λ t l m.
    nothing_stays z.frame (differing (z.base s r) z.frame.first_bit z.frame.bits e) e s r same_state still t
    (omega (arith, single, start, m)))) (z.met e)

-- nothing that is kept adds nothing
pub with_nothing : (m : Made) (xs : List (List Lit)) → kept xs ≡ [] → with_clauses m xs ≡ m
with_nothing m xs h = ap (λ (ys : List (List Lit)). record { clauses = m.clauses ++ ys; most = m.most }) h ∙ with_none m

-- a clause without a pair is kept
implies_kept : (a b : ℕ) → a ≢ b → length (kept ((no_at a ∷ yes_at b ∷ []) ∷ [])) ≡ 1
implies_kept a b differ =
    let unpaired : has_pair (in_order (no_at a ∷ yes_at b ∷ []))
    ≡ false = false_from_ne_true (has_pair (in_order (no_at a ∷ yes_at b ∷ []))) (λ h. refuted h) in
    rw unpaired refl
  where
    one_of : (l : Lit) → has (no_at a ∷ yes_at b ∷ []) l ≡ true → (no_at a ≡ l) ⊎ (yes_at b ≡ l)
    one_of l h = elim (or_cases (same (no_at a) l) (has (yes_at b ∷ []) l) h) [
      | inl e ↦ inl (same_is (no_at a) l e)
      | inr g ↦ (elim (or_cases (same (yes_at b) l) false g) [ inl e ↦ inr (same_is (yes_at b) l e) | inr t ↦ absurd (false≢true t) ])
    ]

    clash : (l : Lit) → (no_at a ≡ l) ⊎ (yes_at b ≡ l) → (no_at a ≡ negation l) ⊎ (yes_at b ≡ negation l) → ⊥
    clash l (inl e) (inl f) = true≢false (ap (λ (m : Lit). m.positive) (ap negation e ∙ sym f))
    clash l (inl e) (inr f) = differ (ap (λ (m : Lit). m.index) e ∙ sym (ap (λ (m : Lit). m.index) f))
    clash l (inr e) (inl f) = differ (ap (λ (m : Lit). m.index) f ∙ sym (ap (λ (m : Lit). m.index) e))
    clash l (inr e) (inr f) = true≢false (ap (λ (m : Lit). m.positive) (f ∙ ap negation (sym e)))

    refuted : has_pair (in_order (no_at a ∷ yes_at b ∷ [])) ≡ true → ⊥
    refuted h = let pair = pair_from (in_order (no_at a ∷ yes_at b ∷ [])) h in
        clash pair.literal (one_of pair.literal (sym (has-in_order (no_at a ∷ yes_at b ∷ []) pair.literal) ∙ pair.one))
        (one_of (negation pair.literal) (sym (has-in_order (no_at a ∷ yes_at b ∷ []) (negation pair.literal)) ∙ pair.other))

-- how many are kept of lists of which as many are kept
pub kept_range : (f : ℕ → List (List Lit)) (k a n : ℕ) → ((x : ℕ) → a ≤ x → x < a + n → length (kept (f x)) ≡ k)
    → length (kept (flat_map f (range_with_len a n))) ≡ n * k
kept_range f k a zero h = omega arith
kept_range f k a (suc n) h =
    let here : length (kept (f a)) ≡ k = h a (omega arith) (omega arith) in
    let later : length (kept (flat_map f (range_with_len (a + 1) n)))
    ≡ n * k = kept_range f k (a + 1) n (λ x l m. h x (omega (arith, l)) (omega (arith, m))) in
    let all : suc n * k ≡ n * k + k = grind arith in
    rw (kept_both (f a) (flat_map f (range_with_len (a + 1) n)), length-append (kept (f a)) (kept (flat_map f (range_with_len (a + 1) n))))
    (omega (arith, here, later, all))

pub kept_each : (f : ℕ → List (List Lit)) (k n : ℕ) → ((x : ℕ) → x < n → length (kept (f x)) ≡ k) → length (kept (each 0 n f)) ≡ n * k
kept_each f k n h = let count : n - 0 ≡ n = omega arith in rw count (kept_range f k 0 n (λ x l m. h x (omega (arith, m))))

-- all clauses of falling numbers are kept, and the encoding has as many at least
pub falling_kept : (at : ℕ → ℕ) (bound : ℕ) → ((i j : ℕ) → at i ≡ at j → i ≡ j) → length (kept (falling at bound)) ≡ bound
falling_kept at bound one =
    let count : bound + 1 - 1 ≡ bound = omega arith in
    rw count (kept_range (λ i. (no_at (at i) ∷ yes_at (at (i - 1)) ∷ []) ∷ []) 1 1 bound
    (λ i l m. implies_kept (at i) (at (i - 1)) (λ e. absurd (omega (arith, one i (i - 1) e, l)))) ∙ omega arith)

numbers_kept : (f : FrameTree) → length (kept (clauses_of_numbers f)) ≡ f.states * f.automaton_states * f.bound
numbers_kept f =
    kept_each (falling_in_row (number_grid f) f.bound) (f.automaton_states * f.bound) f.states
    (λ s l. kept_each (λ p. falling (cell_index (number_grid f) s p) f.bound) f.bound f.automaton_states
    (λ p m. falling_kept (number_at f s p) f.bound (λ i j e. omega (arith, e))))
    ∙ grind arith

kept_among : (a b n t : List (List Lit)) (k : ℕ) → length (kept n) ≡ k → k ≤ length (kept (a ++ (b ++ (n ++ t))))
kept_among a b n t k is =
    rw (
      kept_both a (b ++ (n ++ t)),
      length-append (kept a) (kept (b ++ (n ++ t))),
      kept_both b (n ++ t),
      length-append (kept b) (kept (n ++ t)),
      kept_both n t,
      length-append (kept n) (kept t),
    ) (omega (arith, is))

pub side_numbers_within : (z : SideTree) → z.frame.states * z.frame.automaton_states * z.frame.bound ≤ length (kept (clauses_of_side z))
side_numbers_within z =
    kept_among (clauses_of_nexts z.frame) (clauses_of_start z.frame) (clauses_of_numbers z.frame) (clauses_of_edges z)
    (z.frame.states * z.frame.automaton_states * z.frame.bound) (numbers_kept z.frame)

pub numbers_within : (q : QuestionTree) → q.states * q.automaton_states * q.bound ≤ length (encoding q)
numbers_within q = rw (
  kept_both (choice_clauses q) (clauses_of_side (controller_side q)),
  length-append (kept (choice_clauses q)) (kept (clauses_of_side (controller_side q))),
) (omega (arith, side_numbers_within (controller_side q)))
