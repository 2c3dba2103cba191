-- The equalities of prints along a path: each one is of a predicate term whose bit the print at its offset has, each such one is among
-- them, and they stand in the order of programs.
use Rattle.std.proofs.Common.{◌≡◌, ◌∙◌, ℕ, zero, suc, ◌+◌, ◌<◌, ◌≤◌, Bool, true, false, not, ◌&&◌, ◌==◌, nat_lt, List, [], ◌∷◌, ◌++◌}
use Rattle.std.proofs.Common.{length, take, drop, Some, slice_get, refl, sym, ap, subst, arith, eq-eqb}
use Rattle.std.specs.List.{AllByRecursion, list_all}
use Rattle.std.proofs.lemmas.Bool.{and_from, and_parts, or_left, or_right, lt-ltb}
use Rattle.std.proofs.lemmas.Option.{none-some, same_Some}
use Rattle.base_library.specs.Once.{StandOnce}
use Rattle.base_library.proofs.Each.{each_joined, each_weaker}
use Rattle.base_library.proofs.Passes.{each_from_list_all, list_all_from_each}
use Rattle.base_library.proofs.Places.{slice_get_grown, slice_get-append}
use Rattle.tsl_terms.specs.TermTree.{ProbeTree}
use Rattle.tsl_terms.specs.SameTree.{same_probe_tree}
use Rattle.tsl_terms.proofs.SameLemmas.{same_probe_is}
use Rattle.tsl_terms.specs.WindowTree.{EquatedTree}
use Rattle.program_tree.specs.Fits.{may_follow, are_in_order}
use Rattle.ltl_formula.specs.Cubes.{has_bit}
use Rattle.branch_finder.specs.internal.Paths.{vector_at, equality_if, equalities_in, equalities_along}
use Rattle.branch_finder.specs.internal.Thinning.{IsOwnEquality}
use Rattle.branch_finder.proofs.PathUpdates.{vector_is}
use Rattle.branch_finder.proofs.UpdateOrder.{each_without}

-- ---- what each equality is

-- an equality at an offset, of a bit from a first one on that a print has
record IsAt (probes : List ProbeTree) (print offset first : ℕ) (q : EquatedTree) : Type 0 where
  place : ℕ
  from_first : first ≤ place
  is_place : slice_get probes place ≡ Some q.probe
  here : q.offset ≡ offset
  has : has_bit place print ≡ true

module _ (probes : List ProbeTree) where
  -- these are the probes from a place on
  abbrev AreFrom : ℕ → List ProbeTree → Type 0
  AreFrom first ps = (k : ℕ) (p : ProbeTree) → slice_get ps k ≡ Some p → slice_get probes (first + k) ≡ Some p

  are_after : (first : ℕ) (p : ProbeTree) (ps : List ProbeTree) → AreFrom first (p ∷ ps) → AreFrom (suc first) ps
  are_after first p ps are k q at = subst (λ n. slice_get probes n ≡ Some q) (omega arith) (are (suc k) q at)

  is_first : (first : ℕ) (p : ProbeTree) (ps : List ProbeTree) → AreFrom first (p ∷ ps) → slice_get probes first ≡ Some p
  is_first first p ps are = subst (λ n. slice_get probes n ≡ Some p) (omega arith) (are 0 p refl)

  each_in : (print offset first : ℕ) (ps : List ProbeTree) → AreFrom first ps →
      AllByRecursion (IsAt probes print offset first) (equalities_in print first offset ps)
  each_in print offset first [] are = tt
  each_in print offset first (p ∷ ps) are =
      each_joined (IsAt probes print offset first) (equality_if (has_bit first print) offset p) (equalities_in print (suc first) offset ps)
      (by (has_bit first print) refl)
      (each_weaker (IsAt probes print offset (suc first)) (IsAt probes print offset first)
      (λ q at. record { place = at.place; from_first = omega (arith, at.from_first); is_place = at.is_place; here = at.here; has = at.has })
      (equalities_in print (suc first) offset ps) (each_in print offset (suc first) ps (are_after first p ps are)))
    where
      by : (has : Bool) → has_bit first print ≡ has → AllByRecursion (IsAt probes print offset first) (equality_if has offset p)
      by false none = tt
      by true has = (record { place = first; from_first = omega arith; is_place = is_first first p ps are; here = refl; has = has }, tt)

  module _ (print : ℕ → ℕ) where
    each_along : (offset last : ℕ) (prints : List ℕ) → offset + length prints ≤ last →
        ((k n : ℕ) → slice_get prints k ≡ Some n → print (offset + k) ≡ n) →
        AllByRecursion (IsOwnEquality probes print offset last) (equalities_along probes offset prints)
    each_along offset last [] within agrees = tt
    each_along offset last (n ∷ prints) within agrees =
        each_joined (IsOwnEquality probes print offset last) (equalities_in n 0 offset probes) (equalities_along probes (suc offset) prints)
        (each_weaker (IsAt probes n offset 0) (IsOwnEquality probes print offset last)
        (λ q at. record {
          bit = at.place;
          is_bit = at.is_place;
          from = omega (arith, at.here);
          before = omega (arith, at.here, within);
          has = ap (has_bit at.place) (ap print at.here ∙ subst (λ m. print m ≡ n) (omega arith) (agrees 0 n refl)) ∙ at.has;
        })
        (equalities_in n 0 offset probes) (each_in n offset 0 probes (λ k p at. subst (λ m. slice_get probes m ≡ Some p) (omega arith) at)))
        (each_weaker (IsOwnEquality probes print (suc offset) last) (IsOwnEquality probes print offset last)
        (λ q own. record { bit = own.bit; is_bit = own.is_bit; from = omega (arith, own.from); before = own.before; has = own.has })
        (equalities_along probes (suc offset) prints)
        (each_along (suc offset) last prints (omega (arith, within))
        (λ k m at. subst (λ t. print t ≡ m) (omega arith) (agrees (suc k) m at))))

  pub own_equalities : (prints : List ℕ) →
      AllByRecursion (IsOwnEquality probes (vector_at prints) 0 (length prints)) (equalities_along probes 0 prints)
  own_equalities prints =
      each_along (vector_at prints) 0 (length prints) prints (omega arith)
      (λ k n at. ap (vector_at prints) (omega arith) ∙ vector_is prints k n at)

  -- ---- that each such equality is there

  in_there : (print offset first : ℕ) (ps : List ProbeTree) (k : ℕ) (p : ProbeTree) → slice_get ps k ≡ Some p →
      has_bit (first + k) print ≡ true →
      (j : ℕ) × (slice_get (equalities_in print first offset ps) j ≡ Some (record { probe = p; offset = offset }))
  in_there print offset first [] k p at has = absurd (none-some p at)
  in_there print offset first (q ∷ ps) zero p at has =
      let same : q ≡ p = same_Some q p at in
      let here : has_bit first print ≡ true = subst (λ n. has_bit n print ≡ true) (omega arith) has in
      let start : equality_if (has_bit first print) offset q ≡ record { probe = p; offset = offset } ∷ []
      = (λ i. equality_if (here i) offset (same i)) in
      (0, ap (λ (es : List EquatedTree). slice_get (es ++ equalities_in print (suc first) offset ps) 0) start)
  in_there print offset first (q ∷ ps) (suc k) p at has =
      let rest = in_there print offset (suc first) ps k p at (subst (λ n. has_bit n print ≡ true) (omega arith) has) in
      let start = equality_if (has_bit first print) offset q in (
        length start + rest.0,
        slice_get-append start (equalities_in print (suc first) offset ps) rest.0 (length start + rest.0) refl ∙ rest.1,
      )

  pub equality_there : (offset : ℕ) (prints : List ℕ) (k print bit : ℕ) (p : ProbeTree) → slice_get prints k ≡ Some print →
      slice_get probes bit ≡ Some p → has_bit bit print ≡ true →
      (j : ℕ) × (slice_get (equalities_along probes offset prints) j ≡ Some (record { probe = p; offset = offset + k }))
  equality_there offset [] k print bit p at is_bit has = absurd (none-some print at)
  equality_there offset (n ∷ prints) zero print bit p at is_bit has =
      let there = in_there n offset 0 probes bit p is_bit
      (ap (λ m. has_bit (0 + bit) m) (same_Some n print at) ∙ subst (λ m. has_bit m print ≡ true) (omega arith) has) in
      let place : offset ≡ offset + 0 = omega arith in (
        there.0,
        slice_get_grown (equalities_in n 0 offset probes) (equalities_along probes (suc offset) prints) there.0 _ there.1
            ∙ ap (λ m. Some (record { probe = p; offset = m })) place,
      )
  equality_there offset (n ∷ prints) (suc k) print bit p at is_bit has =
      let rest = equality_there (suc offset) prints k print bit p at is_bit has in
      let first = equalities_in n 0 offset probes in
      let place : suc offset + k ≡ offset + suc k = omega arith in (
        length first + rest.0,
        slice_get-append first (equalities_along probes (suc offset) prints) rest.0 (length first + rest.0) refl
            ∙ rest.1 ∙ ap (λ m. Some (record { probe = p; offset = m })) place,
      )

-- ---- their order

in_order_joined : (es fs : List EquatedTree) → are_in_order es ≡ true → are_in_order fs ≡ true →
    AllByRecursion (λ e. AllByRecursion (λ f. may_follow e f ≡ true) fs) es → are_in_order (es ++ fs) ≡ true
in_order_joined [] fs first second across = second
in_order_joined (e ∷ es) fs first second across =
    let parts = and_parts (list_all (may_follow e) es) (are_in_order es) first in
    and_from (list_all (may_follow e) (es ++ fs)) (are_in_order (es ++ fs))
    (list_all_from_each (may_follow e) (es ++ fs)
    (each_joined (λ f. may_follow e f ≡ true) es fs (each_from_list_all (may_follow e) es parts.0) across.0))
    (in_order_joined es fs parts.1 second across.1)

-- what is in order is so where one is left out
pub in_order_without : (es : List EquatedTree) (k : ℕ) → are_in_order es ≡ true → are_in_order (take k es ++ drop (suc k) es) ≡ true
in_order_without [] zero all = refl
in_order_without [] (suc k) all = refl
in_order_without (e ∷ es) zero all = (and_parts (list_all (may_follow e) es) (are_in_order es) all).1
in_order_without (e ∷ es) (suc k) all =
    let parts = and_parts (list_all (may_follow e) es) (are_in_order es) all in
    and_from (list_all (may_follow e) (take k es ++ drop (suc k) es)) (are_in_order (take k es ++ drop (suc k) es))
    (list_all_from_each (may_follow e) (take k es ++ drop (suc k) es)
    (each_without (λ f. may_follow e f ≡ true) es k (each_from_list_all (may_follow e) es parts.0)))
    (in_order_without es k parts.1)

module _ (probes : List ProbeTree) (once : StandOnce probes) where
  other_probe : (p q : ProbeTree) (i j : ℕ) → slice_get probes i ≡ Some p → slice_get probes j ≡ Some q → i < j →
      not (same_probe_tree p q) ≡ true
  other_probe p q i j at at_too before = by (same_probe_tree p q) refl
    where
      by : (same : Bool) → same_probe_tree p q ≡ same → not same ≡ true
      by false differ = refl
      by true same =
          let one : i ≡ j = once i j p at (at_too ∙ ap Some (sym (same_probe_is p q same))) in
          absurd (omega (arith, one, before))

  in_order_in : (print offset first : ℕ) (ps : List ProbeTree) → AreFrom probes first ps →
      are_in_order (equalities_in print first offset ps) ≡ true
  in_order_in print offset first [] are = refl
  in_order_in print offset first (p ∷ ps) are =
      in_order_joined (equality_if (has_bit first print) offset p) (equalities_in print (suc first) offset ps) (alone (has_bit first print))
      (in_order_in print offset (suc first) ps (are_after probes first p ps are)) (across (has_bit first print))
    where
      alone : (has : Bool) → are_in_order (equality_if has offset p) ≡ true
      alone false = refl
      alone true = refl

      follows : (q : EquatedTree) → IsAt probes print offset (suc first) q → may_follow (record { probe = p; offset = offset }) q ≡ true
      follows q at =
          or_right (nat_lt offset q.offset) ((offset == q.offset) && not (same_probe_tree p q.probe))
          (and_from (offset == q.offset) (not (same_probe_tree p q.probe)) (eq-eqb offset q.offset (sym at.here))
          (other_probe p q.probe first at.place (is_first probes first p ps are) at.is_place (omega (arith, at.from_first))))

      across : (has : Bool) → AllByRecursion (λ e. AllByRecursion (λ f. may_follow e f ≡ true) (equalities_in print (suc first) offset ps))
          (equality_if has offset p)
      across false = tt
      across true = (
        each_weaker (IsAt probes print offset (suc first)) (λ f. may_follow (record { probe = p; offset = offset }) f ≡ true) follows
            (equalities_in print (suc first) offset ps) (each_in probes print offset (suc first) ps (are_after probes first p ps are)),
        tt,
      )

  pub along_in_order : (offset : ℕ) (prints : List ℕ) → are_in_order (equalities_along probes offset prints) ≡ true
  along_in_order offset [] = refl
  along_in_order offset (n ∷ prints) =
      in_order_joined (equalities_in n 0 offset probes) (equalities_along probes (suc offset) prints) (in_order_in n offset 0 probes whole)
      (along_in_order (suc offset) prints)
      (each_weaker (IsAt probes n offset 0)
      (λ e. AllByRecursion (λ f. may_follow e f ≡ true) (equalities_along probes (suc offset) prints))
      (λ e at. each_weaker (λ f. suc offset ≤ f.offset) (λ f. may_follow e f ≡ true)
      (λ f from. or_left (nat_lt e.offset f.offset) ((e.offset == f.offset) && not (same_probe_tree e.probe f.probe))
      (lt-ltb e.offset f.offset (omega (arith, at.here, from))))
      (equalities_along probes (suc offset) prints) (later (suc offset) (suc offset) prints (omega arith)))
      (equalities_in n 0 offset probes) (each_in probes n offset 0 probes whole))
    where
      whole : AreFrom probes 0 probes
      whole k p at = subst (λ m. slice_get probes m ≡ Some p) (omega arith) at

      later : (least first : ℕ) (ns : List ℕ) → least ≤ first → AllByRecursion (λ f. least ≤ f.offset) (equalities_along probes first ns)
      later least first [] within = tt
      later least first (m ∷ ns) within =
          each_joined (λ f. least ≤ f.offset) (equalities_in m 0 first probes) (equalities_along probes (suc first) ns)
          (each_weaker (IsAt probes m first 0) (λ f. least ≤ f.offset) (λ f at. omega (arith, at.here, within))
          (equalities_in m 0 first probes) (each_in probes m first 0 probes whole))
          (later least (suc first) ns (omega (arith, within)))
