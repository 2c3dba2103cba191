-- Where no walk turns through a marked step, nodes have numbers that rise along marked steps: the fewer nodes a node leads to, the
-- higher its number.
use Rattle.std.proofs.Common.{◌≡◌, ℕ, ◌+◌, ◌-◌, ◌<◌, ◌≤◌, ◌⊎◌, inl, inr, Bool, true, false, ◌&&◌, cond, List, ◌∷◌}
use Rattle.std.proofs.Common.{Option, None, Some, Contains, refl, sym, ap, arith}
use Rattle.std.specs.List.{list_any}
use Rattle.std.proofs.lemmas.Bool.{and_parts, and_from, or_left, false_from_ne_true}
use Rattle.std.proofs.lemmas.Option.{none-some, same_Some}
use Rattle.base_library.proofs.Places.{contains_at}
use Rattle.base_library.proofs.Passes.{list_any_place, list_any_contained}
use Rattle.full_bound.specs.internal.Graph.{MarkedTurn, IsNodeNumbering}
use Rattle.full_bound.proofs.Counts.{count_below, count_within, count_le, count_less, any_below, any_place, any_none}
use Rattle.full_bound.proofs.Closures.{IsClosure, closure, has_walk, walk_stays}

module _ {S : Type 0} (steps : ℕ → List S) (to : S → ℕ) (marked : S → Bool) (nodes : ℕ) (some_node : 0 < nodes)
    (stays : (p : ℕ) (s : S) → p < nodes → Contains (steps p) s → to s < nodes) where
  abbrev reach : ℕ → ℕ → Bool
  reach x = (closure steps to marked nodes stays x).0

  reach_is : (x : ℕ) → IsClosure steps to marked nodes stays x (reach x)
  reach_is x = (closure steps to marked nodes stays x).1

  -- a marked step that leads back
  abbrev turns_back : ℕ → S → Bool
  turns_back p s = marked s && reach (to s) p

  abbrev turns : ℕ → Bool
  turns p = reach 0 p && list_any (turns_back p) (steps p)

  reached_below : (p : ℕ) → reach 0 p ≡ true → p < nodes
  reached_below p is = let w = (reach_is 0).walked p is in walk_stays steps to marked nodes stays 0 w.0 p some_node w.1

  turn_of : any_below nodes turns ≡ true → MarkedTurn steps to marked
  turn_of some =
      let place = any_place nodes turns some in
      let parts = and_parts (reach 0 place.0) (list_any (turns_back place.0) (steps place.0)) place.2 in
      let found = list_any_place (turns_back place.0) (steps place.0) parts.1 in
      let own = and_parts (marked found.1) (reach (to found.1) place.0) found.3 in
      let there = (reach_is 0).walked place.0 parts.0 in
      let again = (reach_is (to found.1)).walked place.0 own.1 in
      record {
        node = place.0;
        stem = there.0;
        turn = found.1 ∷ again.0;
        to_node = there.1;
        back = (contains_at (steps place.0) found.0 found.1 found.2, again.1);
        passes = or_left (marked found.1) (list_any marked again.0) own.0;
      }

  module _ (none : any_below nodes turns ≡ false) where
    abbrev size : ℕ → ℕ
    size p = count_below nodes (reach p)

    abbrev number : ℕ → Option ℕ
    number p = cond (reach 0 p) (Some (nodes - size p)) None

    number_is : (p n : ℕ) → number p ≡ Some n → (reach 0 p ≡ true) × (n ≡ nodes - size p)
    number_is p n = by (reach 0 p) refl
      where
        by : (b : Bool) → reach 0 p ≡ b → cond b (Some (nodes - size p)) None ≡ Some n → (b ≡ true) × (n ≡ nodes - size p)
        by true is at = (refl, sym (same_Some (nodes - size p) n at))
        by false is at = absurd (none-some n at)

    has_number : (p : ℕ) → reach 0 p ≡ true → number p ≡ Some (nodes - size p)
    has_number p is = ap (λ b. cond b (Some (nodes - size p)) None) is

    -- a step leads to no more nodes
    inside : (p : ℕ) (s : S) → p < nodes → Contains (steps p) s → (y : ℕ) → reach (to s) y ≡ true → reach p y ≡ true
    inside p s below stands y is =
        let w = (reach_is (to s)).walked y is in
        has_walk steps to marked nodes stays p (reach p) (reach_is p) (to s) w.0 y (stays p s below stands)
        ((reach_is p).closed p s below (reach_is p).here stands) w.1

    smaller : (p : ℕ) (s : S) → reach 0 p ≡ true → Contains (steps p) s → size (to s) + cond (marked s) 1 0 ≤ size p
    smaller p s is stands = by (marked s) refl
      where
        below : p < nodes
        below = reached_below p is

        by : (b : Bool) → marked s ≡ b → size (to s) + cond b 1 0 ≤ size p
        by true mark =
            let out : reach (to s) p ≡ false = false_from_ne_true (reach (to s) p) (λ back.
            any_none nodes turns none p below (and_from (reach 0 p) (list_any (turns_back p) (steps p)) is
            (list_any_contained (turns_back p) (steps p) s stands (and_from (marked s) (reach (to s) p) mark back)))) in
            let less = count_less nodes (reach (to s)) (reach p) (inside p s below stands) p below out (reach_is p).here in
            omega (arith, less)
        by false mark =
            let le = count_le nodes (reach (to s)) (reach p) (inside p s below stands) in
            omega (arith, le)

    numbering : IsNodeNumbering steps to marked nodes nodes number
    numbering = record {
      start = (nodes - size 0, has_number 0 (reach_is 0).here);
      within = λ p n at. let is = number_is p n at in (omega (arith, is.1), reached_below p is.0);
      rises = λ p n s at stands.
          let is = number_is p n at in
          let there : reach 0 (to s) ≡ true = (reach_is 0).closed p s (reached_below p is.0) is.0 stands in
          let less = smaller p s is.0 stands in
          let few = count_within nodes (reach p) in
          (nodes - size (to s), has_number (to s) there, omega (arith, is.1, less, few));
    }

  pub turn_or_numbering : MarkedTurn steps to marked ⊎ ((number : ℕ → Option ℕ) × IsNodeNumbering steps to marked nodes nodes number)
  turn_or_numbering = by (any_below nodes turns) refl
    where
      by : (b : Bool) → any_below nodes turns ≡ b
          → MarkedTurn steps to marked ⊎ ((number : ℕ → Option ℕ) × IsNodeNumbering steps to marked nodes nodes number)
      by true is = inl (turn_of is)
      by false is = inr (number is, numbering is)
