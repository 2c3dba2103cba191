-- Edges in the order of their first states are the same edges: an automaton stays one of its formula.
use Rattle.std.proofs.Common.{◌≡◌, ◌∙◌, ℕ, zero, suc, ◌+◌, ◌-◌, ◌<◌, ◌≤◌, ◌==◌, Bool, true, false, cond, List, [], ◌∷◌, length}
use Rattle.std.proofs.Common.{filter, Some, slice_get, refl, sym, ap, arith, inl, inr}
use Rattle.std.specs.Prelude.{flat_map}
use Rattle.std.specs.List.{AllByRecursion}
use Rattle.std.proofs.lemmas.Bool.{cases_lt, eqb-true, eq-eqb}
use Rattle.std.proofs.lemmas.Option.{none-some, slice_get-get_or, slice_get_within, same_Some}
use Rattle.base_library.specs.Numbers.{numbers_from}
use Rattle.base_library.specs.Once.{StandOnce}
use Rattle.base_library.proofs.Each.{each_from_places, each_filtered, each_flat_map, each_weaker}
use Rattle.base_library.proofs.Places.{contains_at, slice_get-front, slice_get_grown, slice_get-append}
use Rattle.base_library.proofs.Passes.{filter_at, filter_has}
use Rattle.ltl_formula.specs.LtlTree.{LtlTree}
use Rattle.obligations.specs.Expansion.{ChoiceTree}
use Rattle.cobuchi_automata.specs.Automata.{StateTree, EdgeTree, IsAutomaton, IsOfChoice, Leads, untils_of, edge_of}
use Rattle.annotation_check.specs.Annotations.{edges_from}
use Rattle.automaton_text.specs.HoaText.{grouped}

-- ---- those that pass

module _ {X : Type 0} (p : X → Bool) where
  passed_from : (xs : List X) (k : ℕ) (x : X) → slice_get (filter p xs) k ≡ Some x → (i : ℕ) × (slice_get xs i ≡ Some x)
  passed_from [] k x at = absurd (none-some x at)
  passed_from (y ∷ ys) k x at = by (p y) k at (passed_from ys)
    where
      by : (b : Bool) (k : ℕ) → slice_get (cond b (y ∷ filter p ys) (filter p ys)) k ≡ Some x →
          ((j : ℕ) (z : X) → slice_get (filter p ys) j ≡ Some z → (i : ℕ) × (slice_get ys i ≡ Some z)) →
          (i : ℕ) × (slice_get (y ∷ ys) i ≡ Some x)
      by true zero at rest = (0, at)
      by true (suc k) at rest = let r = rest k x at in (suc r.0, r.1)
      by false k at rest = let r = rest k x at in (suc r.0, r.1)

  passed_once : (xs : List X) → StandOnce xs → StandOnce (filter p xs)
  passed_once [] once i j x at_i at_j = absurd (none-some x at_i)
  passed_once (y ∷ ys) once i j x at_i at_j =
      by (p y) i j at_i at_j (passed_once ys (λ m n z at_m at_n. let e = once (suc m) (suc n) z at_m at_n in omega (arith, e)))
    where
      never : (k : ℕ) → y ≡ x → slice_get (filter p ys) k ≡ Some x → ⊥
      never k same at =
          let there = passed_from ys k x at in
          let e : 0 ≡ suc there.0 = once 0 (suc there.0) x (ap Some same) there.1 in
          omega (arith, e)

      by : (b : Bool) (i j : ℕ) → slice_get (cond b (y ∷ filter p ys) (filter p ys)) i ≡ Some x →
          slice_get (cond b (y ∷ filter p ys) (filter p ys)) j ≡ Some x → StandOnce (filter p ys) → i ≡ j
      by true zero zero at_i at_j rest = refl
      by true zero (suc j) at_i at_j rest = absurd (never j (same_Some y x at_i) at_j)
      by true (suc i) zero at_i at_j rest = absurd (never i (same_Some y x at_j) at_i)
      by true (suc i) (suc j) at_i at_j rest = ap suc (rest i j x at_i at_j)
      by false i j at_i at_j rest = rest i j x at_i at_j

-- ---- by their first states

module _ (edges : List EdgeTree) where
  abbrev over : ℕ → ℕ → List EdgeTree
  over first count = flat_map (edges_from edges) (numbers_from first count)

  abbrev Here : ℕ → EdgeTree → Type 0
  Here first e = (first ≤ e.from) × ((i : ℕ) × (slice_get edges i ≡ Some e))

  leaves_here : (first k : ℕ) (e : EdgeTree) → slice_get (edges_from edges first) k ≡ Some e → e.from ≡ first
  leaves_here first k e at = eqb-true e.from first (filter_at (λ d. d.from == first) edges k e at)

  from_over : (first count k : ℕ) (e : EdgeTree) → slice_get (over first count) k ≡ Some e → Here first e
  from_over first zero k e at = absurd (none-some e at)
  from_over first (suc count) k e at =
      let further = from_over (suc first) count in
      elim (cases_lt k (length (edges_from edges first))) [
        | inl below ↦
            let here = sym (slice_get-front (edges_from edges first) (over (suc first) count) k below) ∙ at in
            (omega (arith, leaves_here first k e here), passed_from (λ d. d.from == first) edges k e here)
        | inr past ↦
            let m = k - length (edges_from edges first) in
            let split : k ≡ length (edges_from edges first) + m = omega (arith, past) in
            let rest = further m e
            (sym (slice_get-append (edges_from edges first) (over (suc first) count) m k split) ∙ at) in
            (omega (arith, rest.0), rest.1)
      ]

  has_over : (first count i : ℕ) (e : EdgeTree) → slice_get edges i ≡ Some e → first ≤ e.from → e.from < first + count →
      (k : ℕ) × (slice_get (over first count) k ≡ Some e)
  has_over first zero i e at from below = absurd (omega (arith, from, below))
  has_over first (suc count) i e at from below =
      let further = has_over (suc first) count in
      elim (cases_lt first e.from) [
        | inl later ↦
            let rest = further i e at later (omega (arith, below)) in (
              length (edges_from edges first) + rest.0,
              slice_get-append (edges_from edges first) (over (suc first) count) rest.0 (length (edges_from edges first) + rest.0) refl
                  ∙ rest.1,
            )
        | inr not_later ↦
            let same : e.from ≡ first = omega (arith, from, not_later) in
            let there = filter_has (λ d. d.from == first) edges i e at (eq-eqb e.from first same) in
            (there.0, slice_get_grown (edges_from edges first) (over (suc first) count) there.0 e there.1)
      ]

  once_over : StandOnce edges → (first count : ℕ) → StandOnce (over first count)
  once_over once first zero i j e at_i at_j = absurd (none-some e at_i)
  once_over once first (suc count) i j e at_i at_j =
      let further = once_over once (suc first) count in
      elim (cases_lt i (length (edges_from edges first))) [
        | inl below_i ↦ elim (cases_lt j (length (edges_from edges first))) [
          | inl below_j ↦
              passed_once (λ d. d.from == first) edges once i j e (front i below_i at_i) (front j below_j at_j)
          | inr past_j ↦ absurd (apart i j (front i below_i at_i) (behind j past_j at_j))
        ]
        | inr past_i ↦ elim (cases_lt j (length (edges_from edges first))) [
          | inl below_j ↦ absurd (apart j i (front j below_j at_j) (behind i past_i at_i))
          | inr past_j ↦
              let e_is = further (i - length (edges_from edges first)) (j - length (edges_from edges first)) e
              (behind i past_i at_i) (behind j past_j at_j) in
              omega (arith, e_is, past_i, past_j)
        ]
      ]
    where
      front : (k : ℕ) → k < length (edges_from edges first) → slice_get (over first (suc count)) k ≡ Some e →
          slice_get (edges_from edges first) k ≡ Some e
      front k below at = sym (slice_get-front (edges_from edges first) (over (suc first) count) k below) ∙ at

      behind : (k : ℕ) → length (edges_from edges first) ≤ k → slice_get (over first (suc count)) k ≡ Some e →
          slice_get (over (suc first) count) (k - length (edges_from edges first)) ≡ Some e
      behind k past at =
          let split : k ≡ length (edges_from edges first) + (k - length (edges_from edges first)) = omega (arith, past) in
          sym (slice_get-append (edges_from edges first) (over (suc first) count) (k - length (edges_from edges first)) k split) ∙ at

      apart : (k m : ℕ) → slice_get (edges_from edges first) k ≡ Some e →
          slice_get (over (suc first) count) (m - length (edges_from edges first)) ≡ Some e → ⊥
      apart k m here later =
          let from = leaves_here first k e here in
          let past = from_over (suc first) count (m - length (edges_from edges first)) e later in
          omega (arith, from, past.0)

-- ---- automata

module _ (f : LtlTree) (states : List StateTree) (edges : List EdgeTree) (is : IsAutomaton f states edges) where
  leads_too : (i : ℕ) (s : StateTree) → slice_get states i ≡ Some s → (c : ChoiceTree) → Leads (untils_of f) states edges i s c →
      Leads (untils_of f) states (grouped (length states) edges) i s c
  leads_too i s at c h =
      let place = h.edge in
      let e = edge_of (untils_of f) i s c h.to in
      let there : slice_get edges place.0 ≡ Some e = slice_get-get_or edges place.0 e place.1 ∙ ap Some place.2 in
      let within = slice_get_within states i s at in
      let found = has_over edges 0 (length states) place.0 e there (omega arith) (omega (arith, within)) in
      record { to = h.to; there = h.there; edge = contains_at (grouped (length states) edges) found.0 e found.1 }

  pub grouped_automaton : IsAutomaton f states (grouped (length states) edges)
  grouped_automaton = record {
    start = is.start;
    reached = is.reached;
    once = is.once;
    leads = λ i s at.
        let l = is.leads i s at in (
          l.0,
          l.1,
          each_weaker (Leads (untils_of f) states edges i s) (Leads (untils_of f) states (grouped (length states) edges) i s)
              (leads_too i s at) l.0 l.2,
        );
    of_choices = each_flat_map (IsOfChoice (untils_of f) states) (edges_from edges) (numbers_from 0 (length states))
        (each_from_places (λ q. AllByRecursion (IsOfChoice (untils_of f) states) (edges_from edges q)) (numbers_from 0 (length states))
        (λ k q at. each_filtered (IsOfChoice (untils_of f) states) (λ d. d.from == q) edges is.of_choices));
    edges_once = once_over edges is.edges_once 0 (length states);
  }
