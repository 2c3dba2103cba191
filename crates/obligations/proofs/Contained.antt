-- What a choice contains: by connectives, and of the members of a set whose choice it is.
use Rattle.std.proofs.Common.{◌≡◌, ◌∙◌, ℕ, zero, suc, ◌<◌, ◌^◌, ◌⊎◌, inl, inr, Bool, true, false, cond, not, ◌&&◌, ◌||◌, ◌==◌, nat_lt}
use Rattle.std.proofs.Common.{nat_eq, List, [], ◌∷◌, ◌++◌}
use Rattle.std.proofs.Common.{map, Option, Some, None, Contains, refl, sym, ap, subst, arith, bit_and, bit_or, min, max, eq-eqb, slice_get}
use Rattle.std.specs.List.{list_any, AllByRecursion}
use Rattle.std.specs.Option.{option_map_or}
use Rattle.std.specs.Ordering.{nat_cmp}
use Rattle.std.specs.Int.{bit_at}
use Rattle.std.proofs.lemmas.Nat.{and_assoc, and_comm}
use Rattle.std.proofs.lemmas.Nat.Bits.{bit_at_and, bit_at_or, bit_at-lt, bit_at_above, same_from_bits}
use Rattle.std.proofs.lemmas.Option.{none-some, same_Some, slice_get-get_or}
use Rattle.std.proofs.lemmas.Bool.{eqb-true, false≢true, and_parts, and_from, or_cases, or_left, or_right, ltb-false}
use Rattle.base_library.proofs.Booleans.{same_tests}
use Rattle.base_library.proofs.Each.{each_left, each_right, each_contained}
use Rattle.base_library.proofs.Places.{contains_at}
use Rattle.base_library.proofs.Passes.{list_any-map, list_any_place, list_any_contained}
use Rattle.std.proofs.Math.Bool.{or-false}
use Rattle.ltl_formula.specs.LtlTree.{LtlTree, LtlTrees, bottom, bit, not_bit, conjunction, disjunction, next, until, release}
use Rattle.ltl_formula.specs.LtlTree.{no_formulas, more_formulas, ltl_formulas_in}
use Rattle.ltl_formula.specs.LtlOrder.{tree_cmp}
use Rattle.ltl_formula.specs.Increasing.{IsIncreasing}
use Rattle.ltl_formula.specs.Cubes.{has_bit, cube_matches}
use Rattle.obligations.specs.Choices.{letter_bits, empty_choice, goes_on, puts_off, then_list, formed, is_subset, is_within}
use Rattle.obligations.specs.Choices.{product}
use Rattle.obligations.specs.Expansion.{ChoiceTree, same_formula, expansion_by, all_choices_by, any_choices_by, choices_from, expansion}
use Rattle.obligations.specs.Expansion.{choices}
use Rattle.obligations.specs.Named.{formula_named, choice_named}
use Rattle.obligations.specs.Numbers.{ChoiceKey, formula_number}
use Rattle.obligations.specs.Obligations.{obligations, obligations_of_all, closure_of}
use Rattle.obligations.specs.StepLaw.{is_true_with}
use Rattle.obligations.specs.Contained.{has_choice_of, ContainsChoices}
use Rattle.obligations.proofs.FormulaNumbers.{is_named, numbered, same_is, same_itself}
use Rattle.obligations.proofs.WithinLemmas.{Within, within_itself, is_within_key, rising as rising_of}
use Rattle.obligations.proofs.NamedChoices.{Agrees, AreWell, join, expansion_agrees, choices_agree, empty_well, goes_on_agree}
use Rattle.obligations.proofs.NamedChoices.{puts_off_agree}
use Rattle.obligations.proofs.NamedChoices.{names_are_enough, names_rise, within-named}
use Rattle.obligations.proofs.StepTruth.{true_join, contradict, down, literal_is, literal_is_not}
use Rattle.obligations.proofs.TestedChoices.{IsTest, of_product, of_sum}

-- ---- cubes

larger_bit : (c d k : ℕ) → c < 2 → d < 2 → k < 2 → min (max c d) k ≡ max c d → min c k ≡ c
larger_bit c d k a b e h = omega arith

larger_bit_right : (c d k : ℕ) → c < 2 → d < 2 → k < 2 → min (max c d) k ≡ max c d → min d k ≡ d
larger_bit_right c d k a b e h = omega arith

both_bits : (c d k : ℕ) → c < 2 → d < 2 → k < 2 → min c k ≡ c → min d k ≡ d → min (max c d) k ≡ max c d
both_bits c d k a b e h i = omega arith

module _ (c d k : ℕ) where
  at_both : bit_and (bit_or c d) k ≡ bit_or c d → (i : ℕ) → min (max (bit_at c i) (bit_at d i)) (bit_at k i) ≡ max (bit_at c i) (bit_at d i)
  at_both h i =
      (λ j. min (sym (bit_at_or c d i) j) (bit_at k i)) ∙ sym (bit_at_and (bit_or c d) k i) ∙ ap (λ n. bit_at n i) h ∙ bit_at_or c d i

  at_one : (n : ℕ) → bit_and n k ≡ n → (i : ℕ) → min (bit_at n i) (bit_at k i) ≡ bit_at n i
  at_one n h i = sym (bit_at_and n k i) ∙ ap (λ m. bit_at m i) h

  asks_both : (bit_and (bit_or c d) k == bit_or c d) ≡ ((bit_and c k == c) && (bit_and d k == d))
  asks_both = same_tests _ _
      (λ h.
      let e = eqb-true (bit_and (bit_or c d) k) (bit_or c d) h in
      and_from (bit_and c k == c) (bit_and d k == d)
      (eq-eqb (bit_and c k) c (same_from_bits (bit_and c k) c (λ i.
      bit_at_and c k i ∙ larger_bit (bit_at c i) (bit_at d i) (bit_at k i) (bit_at-lt c i) (bit_at-lt d i) (bit_at-lt k i) (at_both e i))))
      (eq-eqb (bit_and d k) d (same_from_bits (bit_and d k) d (λ i.
      bit_at_and d k i ∙ larger_bit_right (bit_at c i) (bit_at d i) (bit_at k i) (bit_at-lt c i) (bit_at-lt d i) (bit_at-lt k i)
      (at_both e i)))))
      (λ h.
      let parts = and_parts (bit_and c k == c) (bit_and d k == d) h in
      let p = eqb-true (bit_and c k) c parts.0 in
      let q = eqb-true (bit_and d k) d parts.1 in
      eq-eqb (bit_and (bit_or c d) k) (bit_or c d) (same_from_bits (bit_and (bit_or c d) k) (bit_or c d) (λ i.
      bit_at_and (bit_or c d) k i ∙ (λ j. min (bit_at_or c d i j) (bit_at k i))
      ∙ both_bits (bit_at c i) (bit_at d i) (bit_at k i) (bit_at-lt c i) (bit_at-lt d i) (bit_at-lt k i) (at_one c p i) (at_one d q i)
      ∙ sym (bit_at_or c d i))))

regroup : (p q r s : Bool) → (((p && q) && r) && s) ≡ (p && (q && (r && s)))
regroup false q r s = refl
regroup true q r s = by q r s
  where
    by : (q r s : Bool) → ((q && r) && s) ≡ (q && (r && s))
    by false r s = refl
    by true r s = refl

exchange : (p q m n : Bool) → ((p && q) && (m && n)) ≡ ((p && m) && (q && n))
exchange false q m n = refl
exchange true q true n = refl
exchange true true false n = refl
exchange true false false n = refl

never_both : (p q m n : Bool) → (m && n) ≡ false → ((p && m) && (q && n)) ≡ false
never_both false q m n h = refl
never_both true q false n h = refl
never_both true false true n h = refl
never_both true true true n h = h

then_some : (x : Option (List ChoiceKey)) (go : List ChoiceKey → Option (List ChoiceKey)) (r : List ChoiceKey) → then_list x go ≡ Some r
    → (ys : List ChoiceKey) × (x ≡ Some ys) × (go ys ≡ Some r)
then_some None go r h = absurd (none-some r h)
then_some (Some ys) go r h = (ys, refl, h)

-- ---- what a choice contains

module _ (big : ChoiceTree) where
  abbrev pub has : LtlTree → Bool
  has f = has_choice_of big f

  abbrev pub leaves : LtlTree → Bool
  leaves f = list_any (λ g. same_formula g f) big.next_set

  abbrev pub delays : LtlTree → Bool
  delays f = list_any (λ g. same_formula g f) big.postponed

  module _ (names : List LtlTree) (rises : IsIncreasing tree_cmp names) where
    abbrev within : ChoiceKey → Bool
    within c = is_within same_formula (choice_named names c) big

    abbrev is_true : ChoiceKey → Bool
    is_true c = is_true_with big.want leaves delays (choice_named names c)

    parts_are : (c : ChoiceKey) → within c ≡ ((bit_and c.care big.care == c.care) && is_true c)
    parts_are c = regroup (bit_and c.care big.care == c.care) (bit_and big.want c.care == c.want)
        (is_subset same_formula (map (formula_named names) c.next_set) big.next_set)
        (is_subset same_formula (map (formula_named names) c.postponed) big.postponed)

    passes_down : (y x : ChoiceKey) → Within y x → within x ≡ true → within y ≡ true
    passes_down y x w h =
        let parts = and_parts (bit_and x.care big.care == x.care) (is_true x) (sym (parts_are x) ∙ h) in
        let care : bit_and x.care big.care ≡ x.care = eqb-true (bit_and x.care big.care) x.care parts.0 in
        let inner : bit_and y.care big.care ≡ y.care =
        ap (λ n. bit_and n big.care) (sym w.care) ∙ and_assoc big.care y.care x.care ∙ ap (bit_and y.care) care ∙ w.care in
        parts_are y ∙ and_from (bit_and y.care big.care == y.care) (is_true y) (eq-eqb (bit_and y.care big.care) y.care inner)
        (down names rises big.want leaves delays y x w parts.1)

    is_test : IsTest names rises within
    is_test = record {
      down = passes_down;
      both = λ c d p q apart.
          parts_are (join names rises c d)
          ∙ (λ k. asks_both c.care d.care big.care k && true_join names rises big.want leaves delays c d p q apart k)
          ∙ exchange (bit_and c.care big.care == c.care) (bit_and d.care big.care == d.care) (is_true c) (is_true d)
          ∙ sym (λ k. parts_are c k && parts_are d k);
      apart = λ c d apart.
          (λ k. parts_are c k && parts_are d k)
          ∙ never_both (bit_and c.care big.care == c.care) (bit_and d.care big.care == d.care) (is_true c) (is_true d)
          (contradict names rises big.want leaves delays c d apart);
    }

    abbrev AreAllNamed : List LtlTree → Type 0
    AreAllNamed fs = AllByRecursion (λ g. is_named names g ≡ true) fs

    abbrev numbered_of : LtlTree → Option (List ChoiceKey)
    numbered_of f = expansion_by nat_eq nat_cmp (formula_number names) f

    has_is : (f : LtlTree) → AreAllNamed (obligations f) → has f ≡ option_map_or (list_any within) (numbered_of f) false
    has_is f named = by (numbered_of f) (expansion_agrees names rises f named)
      where
        by : (x : Option (List ChoiceKey)) → Agrees names rises x (expansion f) → has f ≡ option_map_or (list_any within) x false
        by None agree = ap (λ o. option_map_or (list_any (λ d. is_within same_formula d big)) o false) agree
        by (Some cs) agree =
            ap (λ o. option_map_or (list_any (λ d. is_within same_formula d big)) o false) agree.0
            ∙ list_any-map (choice_named names) (λ d. is_within same_formula d big) cs

    -- a record of the expansion over numbers, and that one of its choices is contained
    record Found (x : Option (List ChoiceKey)) : Type 0 where
      list : List ChoiceKey
      is : x ≡ Some list
      some : list_any within list ≡ true

    found_of : (x : Option (List ChoiceKey)) → option_map_or (list_any within) x false ≡ true → Found x
    found_of None h = absurd (false≢true h)
    found_of (Some cs) h = record { list = cs; is = refl; some = h }

    found : (f : LtlTree) → AreAllNamed (obligations f) → has f ≡ true → Found (numbered_of f)
    found f named h = found_of (numbered_of f) (sym (has_is f named) ∙ h)

    back : (f : LtlTree) → AreAllNamed (obligations f) → (r : List ChoiceKey) → numbered_of f ≡ Some r → list_any within r ≡ true →
        has f ≡ true
    back f named r at h = has_is f named ∙ ap (λ o. option_map_or (list_any within) o false) at ∙ h

    well_of : (f : LtlTree) → AreAllNamed (obligations f) → (r : List ChoiceKey) → numbered_of f ≡ Some r → AreWell names rises r
    well_of f named r at = (subst (λ x. Agrees names rises x (expansion f)) at (expansion_agrees names rises f named)).1

    of_goes_on : (n : ℕ) (f : LtlTree) → formula_named names n ≡ f → list_any within (goes_on n ∷ []) ≡ true → leaves f ≡ true
    of_goes_on n f same h =
        let one : within (goes_on n) ≡ true = sym (or-false (within (goes_on n))) ∙ h in
        let parts = and_parts (bit_and 0 big.care == 0) (is_true (goes_on n)) (sym (parts_are (goes_on n)) ∙ one) in
        let sets = and_parts (cube_matches 0 0 big.want) ((leaves (formula_named names n) && true) && true) parts.1 in
        let next = and_parts (leaves (formula_named names n) && true) true sets.1 in
        ap leaves (sym same) ∙ (and_parts (leaves (formula_named names n)) true next.0).0

    of_puts_off : (n : ℕ) (f : LtlTree) → formula_named names n ≡ f → list_any within (puts_off n ∷ []) ≡ true →
        (leaves f ≡ true) × (delays f ≡ true)
    of_puts_off n f same h =
        let one : within (puts_off n) ≡ true = sym (or-false (within (puts_off n))) ∙ h in
        let parts = and_parts (bit_and 0 big.care == 0) (is_true (puts_off n)) (sym (parts_are (puts_off n)) ∙ one) in
        let sets = and_parts (cube_matches 0 0 big.want)
        ((leaves (formula_named names n) && true) && (delays (formula_named names n) && true)) parts.1 in
        let each = and_parts (leaves (formula_named names n) && true) (delays (formula_named names n) && true) sets.1 in (
          ap leaves (sym same) ∙ (and_parts (leaves (formula_named names n)) true each.0).0,
          ap delays (sym same) ∙ (and_parts (delays (formula_named names n)) true each.1).0,
        )

    next_by : (f : LtlTree) → AreAllNamed (obligations (next f)) → has (next f) ≡ true → leaves f ≡ true
    next_by f named h =
        let n = numbered names f named.0 in
        let r = found (next f) named h in
        of_goes_on (formula_number names f) f n.1
        (ap (list_any within) (same_Some (goes_on (formula_number names f) ∷ []) r.list r.is) ∙ r.some)

    until_by : (a b : LtlTree) → AreAllNamed (obligations (until a b)) → has (until a b) ≡ true →
        (has b ≡ true) ⊎ ((has a ≡ true) × (leaves (until a b) ≡ true) × (delays (until a b) ≡ true))
    until_by a b named h =
        let n = numbered names (until a b) named.0 in
        let own = (puts_off_agree names rises (formula_number names (until a b)) (until a b) n.0 n.1).1 in
        let has_a = each_left (λ g. is_named names g ≡ true) (obligations a) (obligations b) named.1 in
        let has_b = each_right (λ g. is_named names g ≡ true) (obligations a) (obligations b) named.1 in
        let r = found (until a b) named h in
        let now = then_some (numbered_of b) _ r.list r.is in
        let late = then_some (numbered_of a) _ r.list now.2 in
        let put = then_some (product nat_eq nat_cmp late.0 (puts_off (formula_number names (until a b)) ∷ [])) _ r.list late.2 in
        let made = of_product names rises within is_test late.0 (puts_off (formula_number names (until a b)) ∷ []) put.0
        (well_of a has_a late.0 late.1) own put.1 in
        let sum = of_sum names rises within is_test now.0 put.0 r.list (well_of b has_b now.0 now.1) made.0 put.2 in
        elim (or_cases (list_any within now.0) (list_any within put.0) (sym sum.1 ∙ r.some)) [
          | inl here ↦ inl (back b has_b now.0 now.1 here)
          | inr later ↦
              let parts = and_parts (list_any within late.0) (list_any within (puts_off (formula_number names (until a b)) ∷ []))
              (sym made.1 ∙ later) in
              let own_parts = of_puts_off (formula_number names (until a b)) (until a b) n.1 parts.1 in
              inr (back a has_a late.0 late.1 parts.0, own_parts.0, own_parts.1)
        ]

    release_by : (a b : LtlTree) → AreAllNamed (obligations (release a b)) → has (release a b) ≡ true →
        (has b ≡ true) × ((has a ≡ true) ⊎ (leaves (release a b) ≡ true))
    release_by a b named h =
        let n = numbered names (release a b) named.0 in
        let own = (goes_on_agree names rises (formula_number names (release a b)) (release a b) n.0 n.1).1 in
        let has_a = each_left (λ g. is_named names g ≡ true) (obligations a) (obligations b) named.1 in
        let has_b = each_right (λ g. is_named names g ≡ true) (obligations a) (obligations b) named.1 in
        let r = found (release a b) named h in
        let held = then_some (numbered_of b) _ r.list r.is in
        let freed = then_some (numbered_of a) _ r.list held.2 in
        let ends = then_some (formed nat_eq (freed.0 ++ goes_on (formula_number names (release a b)) ∷ [])) _ r.list freed.2 in
        let made = of_sum names rises within is_test freed.0 (goes_on (formula_number names (release a b)) ∷ []) ends.0
        (well_of a has_a freed.0 freed.1) own ends.1 in
        let all = of_product names rises within is_test held.0 ends.0 r.list (well_of b has_b held.0 held.1) made.0 ends.2 in
        let parts = and_parts (list_any within held.0) (list_any within ends.0) (sym all.1 ∙ r.some) in (
          back b has_b held.0 held.1 parts.0,
          elim (or_cases (list_any within freed.0) (list_any within (goes_on (formula_number names (release a b)) ∷ []))
              (sym made.1 ∙ parts.1)) [
                | inl free ↦ inl (back a has_a freed.0 freed.1 free)
                | inr on ↦ inr (of_goes_on (formula_number names (release a b)) (release a b) n.1 on)
              ],
        )

    all_by : (so_far : List ChoiceKey) (fs : LtlTrees) → AreWell names rises so_far → AreAllNamed (obligations_of_all fs) →
        (r : List ChoiceKey) → all_choices_by nat_eq nat_cmp (formula_number names) so_far fs ≡ Some r → list_any within r ≡ true →
        (list_any within so_far ≡ true) × AllByRecursion (λ f. has f ≡ true) (ltl_formulas_in fs)
    all_by so_far no_formulas well named r is some = (ap (list_any within) (same_Some so_far r is) ∙ some, tt)
    all_by so_far (more_formulas f fs) well named r is some =
        let has_f = each_left (λ g. is_named names g ≡ true) (obligations f) (obligations_of_all fs) named in
        let has_fs = each_right (λ g. is_named names g ≡ true) (obligations f) (obligations_of_all fs) named in
        let first = then_some (numbered_of f) _ r is in
        let more = then_some (product nat_eq nat_cmp so_far first.0) _ r first.2 in
        let made = of_product names rises within is_test so_far first.0 more.0 well (well_of f has_f first.0 first.1) more.1 in
        let rest = all_by more.0 fs made.0 has_fs r more.2 some in
        let parts = and_parts (list_any within so_far) (list_any within first.0) (sym made.1 ∙ rest.0) in
        (parts.0, (back f has_f first.0 first.1 parts.1, rest.1))

    any_by : (so_far : List ChoiceKey) (fs : LtlTrees) → AreWell names rises so_far → AreAllNamed (obligations_of_all fs) →
        (r : List ChoiceKey) → any_choices_by nat_eq nat_cmp (formula_number names) so_far fs ≡ Some r → list_any within r ≡ true →
        (list_any within so_far || list_any has (ltl_formulas_in fs)) ≡ true
    any_by so_far no_formulas well named r is some =
        or_left (list_any within so_far) false (ap (list_any within) (same_Some so_far r is) ∙ some)
    any_by so_far (more_formulas f fs) well named r is some =
        let has_f = each_left (λ g. is_named names g ≡ true) (obligations f) (obligations_of_all fs) named in
        let has_fs = each_right (λ g. is_named names g ≡ true) (obligations f) (obligations_of_all fs) named in
        let first = then_some (numbered_of f) _ r is in
        let more = then_some (formed nat_eq (so_far ++ first.0)) _ r first.2 in
        let made = of_sum names rises within is_test so_far first.0 more.0 well (well_of f has_f first.0 first.1) more.1 in
        let rest = any_by more.0 fs made.0 has_fs r more.2 some in
        elim (or_cases (list_any within more.0) (list_any has (ltl_formulas_in fs)) rest) [
          | inl made_here ↦
              elim (or_cases (list_any within so_far) (list_any within first.0) (sym made.1 ∙ made_here)) [
                | inl before ↦ or_left (list_any within so_far) (has f || list_any has (ltl_formulas_in fs)) before
                | inr here ↦ or_right (list_any within so_far) (has f || list_any has (ltl_formulas_in fs))
                    (or_left (has f) (list_any has (ltl_formulas_in fs)) (back f has_f first.0 first.1 here))
              ]
          | inr later ↦ or_right (list_any within so_far) (has f || list_any has (ltl_formulas_in fs))
              (or_right (has f) (list_any has (ltl_formulas_in fs)) later)
        ]

    set_by : (so_far : List ChoiceKey) (fs : List LtlTree) → AreWell names rises so_far →
        AllByRecursion (λ f. AreAllNamed (obligations f)) fs → (r : List ChoiceKey)
        → choices_from nat_eq nat_cmp (formula_number names) so_far fs ≡ Some r → list_any within r ≡ true →
        (list_any within so_far ≡ true) × AllByRecursion (λ f. has f ≡ true) fs
    set_by so_far [] well named r is some = (ap (list_any within) (same_Some so_far r is) ∙ some, tt)
    set_by so_far (f ∷ fs) well named r is some =
        let first = then_some (numbered_of f) _ r is in
        let more = then_some (product nat_eq nat_cmp so_far first.0) _ r first.2 in
        let made = of_product names rises within is_test so_far first.0 more.0 well (well_of f named.0 first.0 first.1) more.1 in
        let rest = set_by more.0 fs made.0 named.1 r more.2 some in
        let parts = and_parts (list_any within so_far) (list_any within first.0) (sym made.1 ∙ rest.0) in
        (parts.0, (back f named.0 first.0 first.1 parts.1, rest.1))

  -- ---- by connectives

  abbrev own_names : LtlTree → List LtlTree
  own_names f = closure_of (f ∷ [])

  own_named : (f : LtlTree) → AllByRecursion (λ g. is_named (own_names f) g ≡ true) (obligations f)
  own_named f = (names_are_enough (f ∷ [])).0

  pub of_bottom : has bottom ≡ true → ⊥
  of_bottom h = false≢true h

  pub of_next : (f : LtlTree) → has (next f) ≡ true → leaves f ≡ true
  of_next f = next_by (own_names (next f)) (names_rise (next f ∷ [])) f (own_named (next f))

  pub of_until : (a b : LtlTree) → has (until a b) ≡ true →
      (has b ≡ true) ⊎ ((has a ≡ true) × (leaves (until a b) ≡ true) × (delays (until a b) ≡ true))
  of_until a b = until_by (own_names (until a b)) (names_rise (until a b ∷ [])) a b (own_named (until a b))

  pub of_release : (a b : LtlTree) → has (release a b) ≡ true →
      (has b ≡ true) × ((has a ≡ true) ⊎ (leaves (release a b) ≡ true))
  of_release a b = release_by (own_names (release a b)) (names_rise (release a b ∷ [])) a b (own_named (release a b))

  pub of_conjunction : (fs : LtlTrees) → has (conjunction fs) ≡ true → AllByRecursion (λ f. has f ≡ true) (ltl_formulas_in fs)
  of_conjunction fs h =
      let names = own_names (conjunction fs) in
      let rises = names_rise (conjunction fs ∷ []) in
      let r = found names rises (conjunction fs) (own_named (conjunction fs)) h in
      (all_by names rises (empty_choice ∷ []) fs (empty_well names rises, tt) (own_named (conjunction fs)) r.list r.is r.some).1

  pub of_disjunction : (fs : LtlTrees) → has (disjunction fs) ≡ true → list_any has (ltl_formulas_in fs) ≡ true
  of_disjunction fs h =
      let names = own_names (disjunction fs) in
      let rises = names_rise (disjunction fs ∷ []) in
      let r = found names rises (disjunction fs) (own_named (disjunction fs)) h in
      any_by names rises [] fs tt (own_named (disjunction fs)) r.list r.is r.some

  -- a letter that matches the choice's cube
  module _ (letter : ℕ) (matches : cube_matches big.care big.want letter ≡ true) where
    read_at : (care want : ℕ) → bit_and care big.care ≡ care → bit_and big.want care ≡ want → bit_and letter care ≡ want
    read_at care want among wanted =
        ap (bit_and letter) (sym among ∙ and_comm care big.care) ∙ sym (and_assoc care letter big.care)
        ∙ ap (λ n. bit_and n care) (eqb-true (bit_and letter big.care) big.want matches) ∙ wanted

    reads : (c : ChoiceTree) → list_any (λ d. is_within same_formula d big) (c ∷ []) ≡ true → cube_matches c.care c.want letter ≡ true
    reads c h =
        let one = sym (or-false (is_within same_formula c big)) ∙ h in
        let parts = and_parts (bit_and c.care big.care == c.care) _
        (sym (regroup (bit_and c.care big.care == c.care) (bit_and big.want c.care == c.want)
        (is_subset same_formula c.next_set big.next_set)
        (is_subset same_formula c.postponed big.postponed)) ∙ one) in
        let inner = and_parts (bit_and big.want c.care == c.want) _ parts.1 in
        eq-eqb (bit_and letter c.care) c.want
        (read_at c.care c.want (eqb-true (bit_and c.care big.care) c.care parts.0) (eqb-true (bit_and big.want c.care) c.want inner.0))

    pub of_bit : (b : ℕ) → has (bit b) ≡ true → has_bit b letter ≡ true
    of_bit b = by (nat_lt b letter_bits)
      where
        by : (l : Bool) → list_any (λ d. is_within same_formula d big)
            (cond l ((record { care = 2 ^ b; want = 2 ^ b; next_set = []; postponed = [] }) ∷ []) []) ≡ true → has_bit b letter ≡ true
        by true h = sym (literal_is letter b) ∙ reads (record { care = 2 ^ b; want = 2 ^ b; next_set = []; postponed = [] }) h
        by false h = absurd (false≢true h)

    pub of_not_bit : letter < 2 ^ 64 → (b : ℕ) → has (not_bit b) ≡ true → not (has_bit b letter) ≡ true
    of_not_bit fits b = by (nat_lt b letter_bits) refl
      where
        by : (l : Bool) → nat_lt b letter_bits ≡ l → list_any (λ d. is_within same_formula d big)
            (cond l ((record { care = 2 ^ b; want = 0; next_set = []; postponed = [] }) ∷ []) (empty_choice ∷ [])) ≡ true →
            not (has_bit b letter) ≡ true
        by true low h = sym (literal_is_not letter b) ∙ reads (record { care = 2 ^ b; want = 0; next_set = []; postponed = [] }) h
        by false high h = ap not (ap (λ n. n == 1) (bit_at_above letter 64 b fits (ltb-false b 64 high)))

-- ---- the members of a set

any_contained_key : (names : List LtlTree) (rises : IsIncreasing tree_cmp names) (cs : List ChoiceKey) (i : ℕ) (c : ChoiceTree)
    → AreWell names rises cs → slice_get (map (choice_named names) cs) i ≡ Some c
    → list_any (within c names rises) cs ≡ true
any_contained_key names rises [] i c well at = absurd (none-some c at)
any_contained_key names rises (k ∷ cs) zero c well at =
    let same : choice_named names k ≡ c = same_Some (choice_named names k) c at in
    or_left (within c names rises k) (list_any (within c names rises) cs)
    (ap (is_within same_formula (choice_named names k)) (sym same)
    ∙ within-named names rises k k well.0 well.0
    ∙ is_within_key k k (within_itself k (rising_of names k well.0)))
any_contained_key names rises (k ∷ cs) (suc i) c well at =
    or_right (within c names rises k) (list_any (within c names rises) cs) (any_contained_key names rises cs i c well.1 at)

pub members_of : (set : List LtlTree) (cs : List ChoiceTree) (i : ℕ) (c : ChoiceTree) → choices set ≡ Some cs → slice_get cs i ≡ Some c →
    AllByRecursion (λ f. has_choice_of c f ≡ true) set
members_of set cs i c are at =
    by (choices_from nat_eq nat_cmp (formula_number names) (empty_choice ∷ []) set) refl
    (choices_agree names rises (empty_choice ∷ []) set (empty_well names rises, tt) (names_are_enough set))
  where
    names : List LtlTree
    names = closure_of set

    rises : IsIncreasing tree_cmp names
    rises = names_rise set

    by : (x : Option (List ChoiceKey)) → choices_from nat_eq nat_cmp (formula_number names) (empty_choice ∷ []) set ≡ x
        → Agrees names rises x (choices set) → AllByRecursion (λ f. has_choice_of c f ≡ true) set
    by None from agree = absurd (none-some cs (sym agree ∙ are))
    by (Some keys) from agree =
        let same : map (choice_named names) keys ≡ cs = same_Some (map (choice_named names) keys) cs (sym agree.0 ∙ are) in
        let some = any_contained_key names rises keys i c agree.1 (ap (λ ds. slice_get ds i) same ∙ at) in
        (set_by c names rises (empty_choice ∷ []) set (empty_well names rises, tt) (names_are_enough set) keys from some).1

-- the tests of a member, either way round
turned_over : (fs : List LtlTree) (u : LtlTree) → list_any (λ g. same_formula g u) fs ≡ true → list_any (same_formula u) fs ≡ true
turned_over fs u h =
    let place = list_any_place (λ g. same_formula g u) fs h in
    list_any_contained (same_formula u) fs place.1 (contains_at fs place.0 place.1 place.2)
    (ap (same_formula u) (same_is place.1 u place.3) ∙ same_itself u)

pub contains_choices : (set : List LtlTree) (cs : List ChoiceTree) (i : ℕ) (c : ChoiceTree) → choices set ≡ Some cs →
    slice_get cs i ≡ Some c → ContainsChoices set c
contains_choices set cs i c are at = record {
  members = members_of set cs i c are at;
  untils = λ a b stands free.
      elim (of_until c a b (each_contained (λ f. has_choice_of c f ≡ true) set (until a b) (members_of set cs i c are at) stands)) [
        | inl here ↦ here
        | inr later ↦ absurd (false≢true (sym free ∙ turned_over c.postponed (until a b) later.2))
      ];
}

pub contains_members : (set : List LtlTree) (cs : List ChoiceTree) (c : ChoiceTree) → choices set ≡ Some cs → Contains cs c →
    AllByRecursion (λ f. has_choice_of c f ≡ true) set
contains_members set cs c are (k, within, is) = members_of set cs k c are (slice_get-get_or cs k c within ∙ ap Some is)
