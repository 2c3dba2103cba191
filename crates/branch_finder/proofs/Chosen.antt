-- Prints that are chosen one after the other: each state has one, and where no state is led to there is no window.
use Rattle.std.proofs.Common.{◌≡◌, ℕ, zero, suc, ◌-◌, ◌≤◌, List, [], ◌∷◌, ◌++◌, map, take, bit_and, Option, Some, slice_get}
use Rattle.std.proofs.Common.{sym, subst, arith, inl, inr}
use Rattle.std.proofs.Common.{length as count_of}
use Rattle.std.proofs.lemmas.List.{length-map, length-take-le}
use Rattle.std.proofs.lemmas.Option.{slice_get_within}
use Rattle.base_library.proofs.Places.{slice_get_some, slice_get_push, slice_get_mapped, slice_get-take}
use Rattle.tsl_terms.specs.WindowTree.{WindowTree}
use Rattle.letter_space.specs.SpaceTree.{SpaceTree}
use Rattle.machines.specs.MachineTree.{EnvironmentTree, IsEnvironment}
use Rattle.machines.specs.Visits.{IsVisited, by_vector}
use Rattle.branch_finder.specs.Spurious.{IsSpurious}
use Rattle.branch_finder.specs.internal.Prints.{HasPrint, ArePrints}
use Rattle.branch_finder.specs.internal.Sets.{set_of, HasAll}
use Rattle.branch_finder.specs.internal.Planes.{IsPlaneOf, ComesFrom}
use Rattle.branch_finder.specs.internal.Finding.{HasNoneOn, HasNoneBy}
use Rattle.branch_finder.proofs.ToldApart.{leads_along}
use Rattle.branch_finder.proofs.VisitLemmas.{visited_below}

module _ (space : SpaceTree) (e : EnvironmentTree) (is_environment : IsEnvironment e) where
  -- each state of a run is visited
  visited_along : (w : WindowTree) (spurious : IsSpurious space e w) (t : ℕ) → t ≤ w.length → IsVisited e (spurious.state t)
  visited_along w spurious zero within = spurious.visited
  visited_along w spurious (suc t) within =
      by_vector (spurious.state t) (spurious.vector t) (spurious.state (suc t))
      (visited_along w spurious t (omega (arith, within))) (spurious.steps t (omega (arith, within)))

  module _ (cells : List ℕ) (equality : Option ℕ) (mask : ℕ) (path prints : List ℕ) where
    -- where there is none with any print more, there is none
    pub none_by_each : (known : List ℕ) → ArePrints e mask known → count_of prints ≤ count_of path →
        ((i print : ℕ) → slice_get known i ≡ Some print → HasNoneBy space e cells equality mask path (prints ++ print ∷ [])) →
        HasNoneBy space e cells equality mask path prints
    none_by_each known are room none w long within congruent spurious agrees printed =
        let state = spurious.state (count_of prints) in
        let below = visited_below e is_environment state (visited_along w spurious (count_of prints) (omega (arith, long, room))) in
        let truths = slice_get_some e.truths state (omega (arith, below, is_environment.has_truths)) in
        let print = are.all state truths.0 truths.1 in
        none print.0 (bit_and truths.0 mask) print.1 w long within congruent spurious agrees
        (λ t n at. elim (slice_get_push prints (bit_and truths.0 mask) t n at) [
          | inl before ↦ printed t n before.1
          | inr last ↦
              subst (λ k. HasPrint e mask n (spurious.state k)) (sym last.0)
              (record { truths = truths.0; at = truths.1; is = last.1 })
        ])

    -- where no state is led to, there is none
    pub none_unreached : (visited : List ℕ) → IsPlaneOf e.states (IsVisited e) visited → 1 ≤ count_of prints →
        count_of prints ≤ suc (count_of path) →
        ((t : ℕ) → ComesFrom space e mask (take (count_of prints - 1) (map (set_of space cells) path)) prints visited t → ⊥) →
        HasNoneBy space e cells equality mask path prints
    none_unreached visited all some few unreached w long within congruent spurious agrees printed =
        let sets = take (count_of prints - 1) (map (set_of space cells) path) in
        let sized : count_of sets ≡ count_of prints - 1
        = length-take-le (count_of prints - 1) (map (set_of space cells) path) (omega (arith, few, length-map path (set_of space cells))) in
        let below = visited_below e is_environment (spurious.state 0) spurious.visited in
        unreached (spurious.state (count_of sets)) (record {
          state = spurious.state 0;
          below = below;
          set = (all.tells (spurious.state 0) below).1 spurious.visited;
          leads = leads_along space e mask sets prints spurious.state spurious.vector (omega (arith, sized, some))
              (λ t before. spurious.steps t (omega (arith, before, sized, some, few, long)))
              (λ t set at.
              let there = slice_get-take (count_of prints - 1) (map (set_of space cells) path) t set at in
              let v = slice_get_mapped (set_of space cells) path t set there.1 in
              subst (λ n. HasAll space n (spurious.vector t)) v.2 (agrees t v.0 v.1).1)
              printed;
        })

  -- where there is none by no prints, there is none along the path
  pub none_by_none : (cells : List ℕ) (equality : Option ℕ) (mask : ℕ) (path : List ℕ) → HasNoneBy space e cells equality mask path [] →
      HasNoneOn space e cells equality path
  none_by_none cells equality mask path none w long within congruent spurious agrees =
      none w long within congruent spurious agrees (λ t print at. absurd (omega (arith, slice_get_within [] t print at)))
