-- The reachable states of a controller: what is found while they are reached, and that those found in the end are all.
use Rattle.std.proofs.Common.{◌≡◌, ◌∙◌, ℕ, zero, suc, ◌+◌, ◌<◌, ◌≤◌, ◌⊎◌, inl, inr, true, List, [], ◌∷◌, ◌++◌, length, filter}
use Rattle.std.proofs.Common.{Some, slice_get, nat_eq, refl, sym, ap, subst, arith}
use Rattle.std.specs.List.{IsDistinct}
use Rattle.std.proofs.lemmas.Bool.{eqb-true, false≢true, false_from_ne_true}
use Rattle.std.proofs.lemmas.Cmp.{nat_eq_equiv}
use Rattle.std.proofs.lemmas.Map.Keys.{IsDistinct-push}
use Rattle.std.proofs.lemmas.Map.Steps.{length-le_from_distinct_below}
use Rattle.std.proofs.lemmas.Option.{none-some, same_Some, slice_get_within}
use Rattle.base_library.specs.Kept.{with_new}
use Rattle.base_library.specs.Numbers.{is_among, numbers_from}
use Rattle.base_library.proofs.Booleans.{eqb_self}
use Rattle.base_library.proofs.Kept.{with_new-append}
use Rattle.base_library.proofs.Numbers.{among_at, among_place, among_numbers}
use Rattle.base_library.proofs.Passes.{list_any_place, filter_at, filter_has}
use Rattle.base_library.proofs.Places.{contains_at, slice_get_one, slice_get_push, slice_get_some, slice_get_grown, slice_get-behind}
use Rattle.tsl_terms.proofs.SignalFacts.{numbers_rise}
use Rattle.machines.specs.MachineTree.{EntryTree, ControllerTree, IsController, controller_entry}
use Rattle.control_flow_model.specs.Flow.{IsReachable, at_start, by_entry, AreKept}
use Rattle.control_flow_model.specs.internal.Reaching.{AreNext, AddsNext, AreFound}
use Rattle.control_flow_model.proofs.FlowLemmas.{entry_within, place_contained, reachable_below}
use Rattle.control_flow_model.proofs.NewMembers.{each_new, grown, stays, stands}

-- ---- the next states of one state

module _ (c : ControllerTree) (s : ℕ) where
  pub no_next : AreNext c s 0 []
  no_next = record { each = λ v e below at. absurd (omega (arith, below)); only = λ j n at. absurd (none-some n at) }

  pub next_more : (v : ℕ) (next : List ℕ) (e : EntryTree) → AreNext c s v next → controller_entry c s v ≡ Some e →
      AreNext c s (v + 1) (next ++ e.next ∷ [])
  next_more v next e are entry = record {
    each = λ w d below at. elim (before_or_here w v below) [
      | inl before ↦
          let have = are.each w d before at in
          (have.0, slice_get_grown next (e.next ∷ []) have.0 d.next have.1)
      | inr here ↦
          let same : e ≡ d = same_entry_there w d here at in
          (length next, slice_get-behind next e.next [] ∙ ap (λ (x : EntryTree). Some x.next) same)
    ];
    only = λ j n at. elim (slice_get_push next e.next j n at) [
      | inl before ↦ are.only j n before.1
      | inr last ↦ (v, e, entry, last.1)
    ];
  }
    where
      before_or_here : (w n : ℕ) → w < n + 1 → (w < n) ⊎ (w ≡ n)
      before_or_here w n below = grind (arith, below)

      same_entry_there : (w : ℕ) (d : EntryTree) → w ≡ v → controller_entry c s w ≡ Some d → e ≡ d
      same_entry_there w d here at i = same_Some e d (sym entry ∙ ap (controller_entry c s) (sym here) ∙ at) i

  pub adds_next : (v : ℕ) (old new next : List ℕ) → c.valuations ≤ v → AreNext c s v next → new ≡ with_new nat_eq old next →
      AddsNext c s old new
  adds_next v old new next past are all = record {
    next = next;
    are_next = record {
      each = λ w e below at. are.each w e (omega (arith, below, past)) at;
      only = are.only;
    };
    all = all;
  }

pub added_more : (old found new next : List ℕ) (n : ℕ) → found ≡ with_new nat_eq old next → new ≡ with_new nat_eq found (n ∷ []) →
    new ≡ with_new nat_eq old (next ++ n ∷ [])
added_more old found new next n before step =
    step ∙ ap (λ ks. with_new nat_eq ks (n ∷ [])) before ∙ with_new-append nat_eq old next (n ∷ [])

-- ---- states that are found

equal_numbers : (m n : ℕ) → nat_eq m n ≡ true → m ≡ n
equal_numbers m n same = eqb-true m n same

none_twice : IsDistinct nat_eq []
unfolding IsDistinct
none_twice = tt

distinct_more : (ns xs : List ℕ) → IsDistinct nat_eq ns → IsDistinct nat_eq (with_new nat_eq ns xs)
distinct_more = grown nat_eq (IsDistinct nat_eq) (λ kept x once absent. IsDistinct-push nat_eq_equiv kept x once
    (false_from_ne_true _ (λ among.
    let place = list_any_place (nat_eq x) kept among in
    let same : x ≡ place.1 = equal_numbers x place.1 place.3 in
    false≢true (sym absent ∙ among_at kept place.0 x (place.2 ∙ ap Some (sym same))))))

module _ (c : ControllerTree) where
  pub found_first : (found : List ℕ) → found ≡ 0 ∷ [] → AreFound c 0 found
  found_first found is = subst (AreFound c 0) (sym is) (record {
    start = refl;
    once = distinct_more [] (0 ∷ []) none_twice;
    reached = by_place;
    closed = λ i s v e below at entry. absurd (omega (arith, below));
    within = omega arith;
  })
    where
      by_place : (i s : ℕ) → slice_get (0 ∷ []) i ≡ Some s → IsReachable c s
      by_place zero s at = subst (IsReachable c) (same_Some 0 s at) at_start
      by_place (suc i) s at = absurd (none-some s at)

  pub found_more : (n s : ℕ) (found new : List ℕ) → AreFound c n found → slice_get found n ≡ Some s → AddsNext c s found new →
      AreFound c (n + 1) new
  found_more n s found new are here adds = subst (AreFound c (n + 1)) (sym adds.all) (record {
    start = stays nat_eq found adds.next 0 0 are.start;
    once = distinct_more found adds.next are.once;
    reached = each_new nat_eq (IsReachable c) found adds.next are.reached (λ j m at.
        let from = adds.are_next.only j m at in
        subst (IsReachable c) from.3 (by_entry s from.0 from.1 (are.reached n s here) from.2));
    closed = closed_more;
    within = omega (arith, slice_get_within (with_new nat_eq found adds.next) n s (stays nat_eq found adds.next n s here));
  })
    where
      here_or_before : (i : ℕ) → i < n + 1 → (i < n) ⊎ (i ≡ n)
      here_or_before i below = grind (arith, below)

      closed_more : (i t v : ℕ) (e : EntryTree) → i < n + 1 → slice_get (with_new nat_eq found adds.next) i ≡ Some t →
          controller_entry c t v ≡ Some e → (j : ℕ) × (slice_get (with_new nat_eq found adds.next) j ≡ Some e.next)
      closed_more i t v e below at entry =
          let old = slice_get_some found i (omega (arith, below, slice_get_within found n s here)) in
          let stood = stays nat_eq found adds.next i old.0 old.1 in
          let same : old.0 ≡ t = slice_get_one (with_new nat_eq found adds.next) i old.0 t stood at in
          elim (here_or_before i below) [
            | inl before ↦
                let have = are.closed i t v e before (old.1 ∙ ap Some same) entry in
                (have.0, stays nat_eq found adds.next have.0 e.next have.1)
            | inr last ↦
                let this : t ≡ s = sym same ∙ slice_get_one found i old.0 s old.1 (ap (slice_get found) last ∙ here) in
                let entry_here : controller_entry c s v ≡ Some e = ap (λ r. controller_entry c r v) (sym this) ∙ entry in
                let have = adds.are_next.each v e (entry_within c s v e entry_here) entry_here in
                stands nat_eq equal_numbers eqb_self found adds.next have.0 e.next have.1
          ]

  pub few_found : IsController c → (n : ℕ) (found : List ℕ) → AreFound c n found → length found ≤ c.states
  few_found is n found are = length-le_from_distinct_below found c.states are.once (λ q among.
      let place = list_any_place (nat_eq q) found among in
      omega (arith, equal_numbers q place.1 place.3, reachable_below c is place.1 (are.reached place.0 place.1 place.2)))

  -- ---- those found are the reachable ones

  module _ (is : IsController c) (found : List ℕ) (are : AreFound c (length found) found) where
    found_if_reachable : (s : ℕ) → IsReachable c s → is_among found s ≡ true
    found_if_reachable _ at_start = among_at found 0 0 are.start
    found_if_reachable _ (by_entry s v e before entry) =
        let place = among_place found s (found_if_reachable s before) in
        let next = are.closed place.0 s v e (slice_get_within found place.0 s place.1) place.1 entry in
        among_at found next.0 e.next next.1

    pub are_kept : AreKept c (filter (is_among found) (numbers_from 0 c.states))
    are_kept = record {
      rise = numbers_rise (is_among found) 0 c.states;
      reachable = λ s. (
        λ contained.
            let place = place_contained _ s contained in
            let stood = among_place found s (filter_at (is_among found) (numbers_from 0 c.states) place.0 s place.1) in
            are.reached stood.0 s stood.1,
        λ reachable.
            let below = reachable_below c is s reachable in
            let all = among_place (numbers_from 0 c.states) s (among_numbers 0 c.states s (omega arith) (omega (arith, below))) in
            let place = filter_has (is_among found) (numbers_from 0 c.states) all.0 s all.1 (found_if_reachable s reachable) in
            contains_at _ place.0 s place.1,
      );
    }
