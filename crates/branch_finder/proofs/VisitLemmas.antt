-- The states that an environment visits: what is found while they are, and that those found in the end are all.
use Rattle.std.proofs.Common.{◌≡◌, ◌∙◌, ℕ, zero, suc, ◌+◌, ◌*◌, ◌<◌, ◌≤◌, ◌⊎◌}
use Rattle.std.proofs.Common.{inl, inr, Bool, true, false, cond, List, [], ◌∷◌, ◌++◌, length}
use Rattle.std.proofs.Common.{Some, None, slice_get, nat_eq, nat_lt, refl, sym, ap, subst, arith, length-append}
use Rattle.std.specs.List.{IsDistinct}
use Rattle.std.proofs.lemmas.Bool.{eqb-true, false≢true, false_from_ne_true, ltb-true}
use Rattle.std.proofs.lemmas.Cmp.{nat_eq_equiv}
use Rattle.std.proofs.lemmas.Map.Keys.{IsDistinct-push}
use Rattle.std.proofs.lemmas.Map.Steps.{length-le_from_distinct_below}
use Rattle.std.proofs.lemmas.Option.{none-some, same_Some, slice_get_within}
use Rattle.base_library.specs.Numbers.{is_among}
use Rattle.base_library.proofs.Numbers.{among_at, among_place}
use Rattle.base_library.proofs.Passes.{list_any_place}
use Rattle.base_library.proofs.Places.{slice_get_push, slice_get_one, slice_get_grown, slice_get-behind}
use Rattle.machines.specs.MachineTree.{EnvironmentTree, IsEnvironment, successor_at}
use Rattle.machines.specs.Visits.{IsVisited, at_start, by_vector}
use Rattle.machines.specs.declared.environment.Environment.{Environment}
use Rattle.machines.specs.MachineView.{environment_tree}
use Rattle.branch_finder.specs.internal.Visiting.{AreFoundUpTo, AreVisited}

-- ---- successors

module _ (e : EnvironmentTree) where
  -- a vector that leads somewhere is one of the environment's
  pub vector_within : (s v t : ℕ) → successor_at e s v ≡ Some t → v < e.vectors
  vector_within s v t is = by (nat_lt v e.vectors) refl is
    where
      by : (b : Bool) → nat_lt v e.vectors ≡ b → cond b (slice_get e.next (s * e.vectors + v)) None ≡ Some t → v < e.vectors
      by true below at = ltb-true v e.vectors below
      by false past at = absurd (none-some t at)

  pub successor_below : IsEnvironment e → (s v t : ℕ) → successor_at e s v ≡ Some t → t < e.states
  successor_below is s v t at = by (nat_lt v e.vectors) at
    where
      by : (b : Bool) → cond b (slice_get e.next (s * e.vectors + v)) None ≡ Some t → t < e.states
      by true there = is.stays (s * e.vectors + v) t there
      by false none = absurd (none-some t none)

  pub visited_below : IsEnvironment e → (s : ℕ) → IsVisited e s → s < e.states
  visited_below is _ at_start = omega (arith, is.has_state)
  visited_below is _ (by_vector s v t before at) = successor_below is s v t at

  -- ---- what is found

  equal_numbers : (m n : ℕ) → nat_eq m n ≡ true → m ≡ n
  equal_numbers m n same = eqb-true m n same

  none_twice : IsDistinct nat_eq []
  unfolding IsDistinct
  none_twice = tt

  distinct_more : (ns : List ℕ) (n : ℕ) → IsDistinct nat_eq ns → is_among ns n ≡ false → IsDistinct nat_eq (ns ++ n ∷ [])
  distinct_more ns n once absent = IsDistinct-push nat_eq_equiv ns n once (false_from_ne_true _ (λ among.
      let place = list_any_place (nat_eq n) ns among in
      let same : n ≡ place.1 = equal_numbers n place.1 place.3 in
      false≢true (sym absent ∙ among_at ns place.0 n (place.2 ∙ ap Some (sym same)))))

  pub found_first : (found : List ℕ) → found ≡ 0 ∷ [] → AreFoundUpTo e 0 0 found
  found_first found is = subst (AreFoundUpTo e 0 0) (sym is) (record {
    start = refl;
    once = distinct_more [] 0 none_twice refl;
    each = by_place;
    closed = λ i s v t earlier at next. nothing i v earlier;
    within = omega arith;
  })
    where
      by_place : (i s : ℕ) → slice_get (0 ∷ []) i ≡ Some s → IsVisited e s
      by_place zero s at = subst (IsVisited e) (same_Some 0 s at) at_start
      by_place (suc i) s at = absurd (none-some s at)

      nothing : {X : Type 0} (i v : ℕ) → (i < 0) ⊎ ((i ≡ 0) × (v < 0)) → X
      nothing i v (inl below) = absurd (omega (arith, below))
      nothing i v (inr both) = absurd (omega (arith, both.1))

  -- one more vector of the state at the place
  pub found_one : (place s v t : ℕ) (found : List ℕ) → slice_get found place ≡ Some s → successor_at e s v ≡ Some t →
      AreFoundUpTo e place v found → AreFoundUpTo e place (v + 1) (cond (is_among found t) found (found ++ t ∷ []))
  found_one place s v t found here next are = by (is_among found t) refl
    where
      earlier : (i w : ℕ) → (i < place) ⊎ ((i ≡ place) × (w < v + 1)) → ((i < place) ⊎ ((i ≡ place) × (w < v))) ⊎ ((i ≡ place) × (w ≡ v))
      earlier i w (inl below) = inl (inl below)
      earlier i w (inr both) = last (before_or_here w v both.1)
        where
          before_or_here : (m n : ℕ) → m < n + 1 → (m < n) ⊎ (m ≡ n)
          before_or_here m n below = grind (arith, below)

          last : (w < v) ⊎ (w ≡ v) → ((i < place) ⊎ ((i ≡ place) × (w < v))) ⊎ ((i ≡ place) × (w ≡ v))
          last (inl before) = inl (inr (both.0, before))
          last (inr same) = inr (both.0, same)

      -- what a longer list has where the old one was closed
      closed_in : (longer : List ℕ) → ((i r : ℕ) → slice_get found i ≡ Some r → slice_get longer i ≡ Some r) →
          ((j : ℕ) × (slice_get longer j ≡ Some t)) → (i r w u : ℕ) → slice_get found i ≡ Some r →
          (i < place) ⊎ ((i ≡ place) × (w < v + 1)) → successor_at e r w ≡ Some u → (j : ℕ) × (slice_get longer j ≡ Some u)
      closed_in longer stay stands i r w u at when goes = elim (earlier i w when) [
        | inl before ↦
            let have = are.closed i r w u before at goes in
            (have.0, stay have.0 u have.1)
        | inr last ↦
            let state : r ≡ s = slice_get_one found i r s at (ap (slice_get found) last.0 ∙ here) in
            let same : t ≡ u = same_Some t u (sym next ∙ (λ i. successor_at e (sym state i) (sym last.1 i)) ∙ goes) in
            (stands.0, stands.1 ∙ ap Some same)
      ]

      by : (b : Bool) → is_among found t ≡ b → AreFoundUpTo e place (v + 1) (cond b found (found ++ t ∷ []))
      by true among = record {
        start = are.start;
        once = are.once;
        each = are.each;
        closed = λ i r w u when at goes. closed_in found (λ j q there. there) (among_place found t among) i r w u at when goes;
        within = are.within;
      }
      by false absent = record {
        start = slice_get_grown found (t ∷ []) 0 0 are.start;
        once = distinct_more found t are.once absent;
        each = λ i r at. elim (slice_get_push found t i r at) [
          | inl before ↦ are.each i r before.1
          | inr last ↦ subst (IsVisited e) last.1 (by_vector s v t (are.each place s here) next)
        ];
        closed = λ i r w u when at goes.
            closed_in (found ++ t ∷ []) (λ j q there. slice_get_grown found (t ∷ []) j q there)
            (length found, slice_get-behind found t []) i r w u
            (old i r when at) when goes;
        within = omega (arith, are.within, length-append found (t ∷ []));
      }
        where
          old : (i r : ℕ) {w : ℕ} → (i < place) ⊎ ((i ≡ place) × (w < v + 1)) → slice_get (found ++ t ∷ []) i ≡ Some r →
              slice_get found i ≡ Some r
          old i r {w = w} when at = elim (slice_get_push found t i r at) [
            | inl before ↦ before.1
            | inr last ↦ absurd (past i w when last.0)
          ]
            where
              past : (i w : ℕ) → (i < place) ⊎ ((i ≡ place) × (w < v + 1)) → i ≡ length found → ⊥
              past i w (inl below) end = omega (arith, below, end, are.within)
              past i w (inr both) end = omega (arith, both.0, end, slice_get_within found place s here)

  -- all vectors of the state at the place
  pub found_row : (place : ℕ) (vectors : ℕ) (found : List ℕ) → place < length found → e.vectors ≤ vectors →
      AreFoundUpTo e place vectors found → AreFoundUpTo e (place + 1) 0 found
  found_row place vectors found inside past are = record {
    start = are.start;
    once = are.once;
    each = are.each;
    closed = λ i s v t when at goes. are.closed i s v t (earlier i v (vector_within s v t goes) when) at goes;
    within = omega (arith, inside);
  }
    where
      before_or_here : (m n : ℕ) → m < n + 1 → (m < n) ⊎ (m ≡ n)
      before_or_here m n below = grind (arith, below)

      earlier : (i v : ℕ) → v < e.vectors → (i < place + 1) ⊎ ((i ≡ place + 1) × (v < 0)) → (i < place) ⊎ ((i ≡ place) × (v < vectors))
      earlier i v within (inr both) = absurd (omega (arith, both.1))
      earlier i v within (inl below) = by (before_or_here i place below)
        where
          by : (i < place) ⊎ (i ≡ place) → (i < place) ⊎ ((i ≡ place) × (v < vectors))
          by (inl before) = inl before
          by (inr here) = inr (here, omega (arith, within, past))

  pub few_found : IsEnvironment e → (place vectors : ℕ) (found : List ℕ) → AreFoundUpTo e place vectors found → length found ≤ e.states
  few_found is place vectors found are = length-le_from_distinct_below found e.states are.once (λ q among.
      let there = list_any_place (nat_eq q) found among in
      omega (arith, equal_numbers q there.1 there.3, visited_below is there.1 (are.each there.0 there.1 there.2)))

  -- ---- those found are the visited ones
  module _ (found : List ℕ) (place : ℕ) (all_expanded : length found ≤ place) (are : AreFoundUpTo e place 0 found) where
    found_if_visited : (s : ℕ) → IsVisited e s → (i : ℕ) × (slice_get found i ≡ Some s)
    found_if_visited _ at_start = (0, are.start)
    found_if_visited _ (by_vector s v t before at) =
        let there = found_if_visited s before in
        are.closed there.0 s v t (inl (omega (arith, slice_get_within found there.0 s there.1, all_expanded))) there.1 at

    pub are_visited : AreVisited e found
    are_visited = record { each = are.each; all = found_if_visited }

-- ---- an environment as a value

pub is_environment : (e : Environment) → IsEnvironment (environment_tree e)
is_environment e = record { has_state = e.has_state; has_truths = e.has_truths; has_next = e.has_next; stays = e.stays }

-- a state stays where another one is added at the end
pub still_here : (found : List ℕ) (place s t : ℕ) → slice_get found place ≡ Some s →
    slice_get (cond (is_among found t) found (found ++ t ∷ [])) place ≡ Some s
still_here found place s t here = by (is_among found t)
  where
    by : (b : Bool) → slice_get (cond b found (found ++ t ∷ [])) place ≡ Some s
    by true = here
    by false = slice_get_grown found (t ∷ []) place s here
