-- The nodes that steps lead to from a node, as a test of numbers.
use Rattle.std.proofs.Common.{◌≡◌, ◌∙◌, ℕ, zero, suc, ◌+◌, ◌<◌, ◌≤◌, inl, inr, Bool, true, false, not, ◌&&◌, ◌||◌, ◌==◌, List, [], ◌∷◌}
use Rattle.std.proofs.Common.{◌++◌}
use Rattle.std.proofs.Common.{Contains, refl, sym, ap, subst, arith, eq-eqb}
use Rattle.std.specs.List.{list_any}
use Rattle.std.proofs.lemmas.Bool.{and_parts, and_from, or_cases, or_left, or_right, eqb-true, not-true}
use Rattle.base_library.proofs.Places.{contains_at}
use Rattle.base_library.proofs.Passes.{list_any_place, list_any_contained}
use Rattle.full_bound.specs.internal.Graph.{IsWalk}
use Rattle.full_bound.proofs.Counts.{count_below, count_within, count_less, any_below, any_place, any_none}

module _ {S : Type 0} (steps : ℕ → List S) (to : S → ℕ) (marked : S → Bool) (nodes : ℕ)
    (stays : (p : ℕ) (s : S) → p < nodes → Contains (steps p) s → to s < nodes) where
  abbrev Walk : ℕ → List S → ℕ → Type 0
  Walk = IsWalk steps to marked

  pub walk_on : (p : ℕ) (ss : List S) (r : ℕ) (s : S) → Walk p ss r → Contains (steps r) s → Walk p (ss ++ s ∷ []) (to s)
  walk_on p [] r s walk stands = (subst (λ n. Contains (steps n) s) (sym walk) stands, refl)
  walk_on p (x ∷ ss) r s walk stands = (walk.0, walk_on (to x) ss r s walk.1 stands)

  pub walk_stays : (p : ℕ) (ss : List S) (r : ℕ) → p < nodes → Walk p ss r → r < nodes
  walk_stays p [] r below walk = subst (λ n. n < nodes) walk below
  walk_stays p (s ∷ ss) r below walk = walk_stays (to s) ss r (stays p s below walk.0) walk.1

  -- a test that holds of a node and of what its steps lead to, and of nothing else
  pub record IsClosure (x : ℕ) (m : ℕ → Bool) : Type 0 where
    pub here : m x ≡ true
    pub closed : (p : ℕ) (s : S) → p < nodes → m p ≡ true → Contains (steps p) s → m (to s) ≡ true
    pub walked : (p : ℕ) → m p ≡ true → (ss : List S) × Walk x ss p

  abbrev with_node : ℕ → (ℕ → Bool) → ℕ → Bool
  with_node y m p = (p == y) || m p

  abbrev leads_out : (ℕ → Bool) → ℕ → Bool
  leads_out m p = m p && list_any (λ s. not (m (to s))) (steps p)

  -- a test that holds of a node and of nothing but what steps lead to from it
  record IsGrowing (x : ℕ) (m : ℕ → Bool) : Type 0 where
    here : m x ≡ true
    walked : (p : ℕ) → m p ≡ true → (ss : List S) × Walk x ss p

  abbrev Closed : ℕ → Type 0
  Closed x = (m : ℕ → Bool) × IsClosure x m

  finished : (x : ℕ) (m : ℕ → Bool) → IsGrowing x m → any_below nodes (leads_out m) ≡ false → Closed x
  finished x m growing none = (m, record { here = growing.here; closed = closed; walked = growing.walked })
    where
      closed : (p : ℕ) (s : S) → p < nodes → m p ≡ true → Contains (steps p) s → m (to s) ≡ true
      closed p s below is stands = by (m (to s)) refl
        where
          by : (b : Bool) → m (to s) ≡ b → b ≡ true
          by true e = refl
          by false e = absurd (any_none nodes (leads_out m) none p below
              (and_from (m p) (list_any (λ r. not (m (to r))) (steps p)) is
              (list_any_contained (λ r. not (m (to r))) (steps p) s stands (ap not e))))

  -- a step that leads out
  record Opening (m : ℕ → Bool) : Type 0 where
    node : ℕ
    below : node < nodes
    inside : m node ≡ true
    step : S
    stands : Contains (steps node) step
    outside : m (to step) ≡ false

  opening : (m : ℕ → Bool) → any_below nodes (leads_out m) ≡ true → Opening m
  opening m some =
      let place = any_place nodes (leads_out m) some in
      let parts = and_parts (m place.0) (list_any (λ s. not (m (to s))) (steps place.0)) place.2 in
      let found = list_any_place (λ s. not (m (to s))) (steps place.0) parts.1 in
      record {
        node = place.0;
        below = place.1;
        inside = parts.0;
        step = found.1;
        stands = contains_at (steps place.0) found.0 found.1 found.2;
        outside = not-true (m (to found.1)) found.3;
      }

  grown : (x : ℕ) (m : ℕ → Bool) → IsGrowing x m → (o : Opening m) → IsGrowing x (with_node (to o.step) m)
  grown x m growing o = record { here = or_right (x == to o.step) (m x) growing.here; walked = walked }
    where
      walked : (p : ℕ) → with_node (to o.step) m p ≡ true → (ss : List S) × Walk x ss p
      walked p is = elim (or_cases (p == to o.step) (m p) is) [
        | inl same ↦
            let e : p ≡ to o.step = eqb-true p (to o.step) same in
            let before = growing.walked o.node o.inside in (
              before.0 ++ o.step ∷ [],
              subst (λ r. Walk x (before.0 ++ o.step ∷ []) r) (sym e)
                  (walk_on x before.0 o.node o.step before.1 o.stands),
            )
        | inr old ↦ growing.walked p old
      ]

  counts_more : (m : ℕ → Bool) (o : Opening m) → count_below nodes m < count_below nodes (with_node (to o.step) m)
  counts_more m o =
      count_less nodes m (with_node (to o.step) m) (λ p is. or_right (p == to o.step) (m p) is) (to o.step)
      (stays o.node o.step o.below o.stands) o.outside
      (or_left (to o.step == to o.step) (m (to o.step)) (eq-eqb (to o.step) (to o.step) refl))

  grow : (room x : ℕ) (m : ℕ → Bool) → nodes ≤ count_below nodes m + room → IsGrowing x m → Closed x
  grow zero x m enough growing = by (any_below nodes (leads_out m)) refl
    where
      by : (b : Bool) → any_below nodes (leads_out m) ≡ b → Closed x
      by true is =
          let o = opening m is in
          let more = counts_more m o in
          let few = count_within nodes (with_node (to o.step) m) in
          absurd (omega (arith, enough, more, few))
      by false is = finished x m growing is
  grow (suc room) x m enough growing = by (any_below nodes (leads_out m)) refl (grow room x)
    where
      by : (b : Bool) → any_below nodes (leads_out m) ≡ b
          → ((n : ℕ → Bool) → nodes ≤ count_below nodes n + room → IsGrowing x n → Closed x) → Closed x
      by true is further =
          let o = opening m is in
          let more = counts_more m o in
          further (with_node (to o.step) m) (omega (arith, enough, more)) (grown x m growing o)
      by false is further = finished x m growing is

  pub closure : (x : ℕ) → (m : ℕ → Bool) × IsClosure x m
  closure x = grow nodes x (λ p. p == x) (omega arith) (record {
    here = eq-eqb x x refl;
    walked = λ p is. ([], sym (eqb-true p x is));
  })

  -- what a walk leads to is in it
  pub has_walk : (x : ℕ) (m : ℕ → Bool) → IsClosure x m → (p : ℕ) (ss : List S) (r : ℕ) → p < nodes → m p ≡ true → Walk p ss r → m r ≡ true
  has_walk x m c p [] r below is walk = ap m (sym walk) ∙ is
  has_walk x m c p (s ∷ ss) r below is walk = has_walk x m c (to s) ss r (stays p s below walk.0) (c.closed p s below is walk.0) walk.1
