-- A set holds at a position exactly where one of its choices is true there, and exactly where one is good.
use Rattle.std.proofs.Common.{◌≡◌, ◌∙◌, ℕ, ◌<◌, ◌^◌, Bool, true, false, cond, not, ◌&&◌, ◌||◌, ◌==◌, nat_lt, nat_eq, List, [], ◌∷◌, ◌++◌}
use Rattle.std.proofs.Common.{map, Option, Some, None, refl, sym, ap, subst}
use Rattle.std.specs.List.{list_any, list_all, AllByRecursion}
use Rattle.std.specs.Option.{option_map_or}
use Rattle.std.specs.Ordering.{nat_cmp}
use Rattle.std.specs.Int.Bits.{and_zero_r}
use Rattle.std.proofs.lemmas.Nat.Bits.{bit_at_above}
use Rattle.std.proofs.lemmas.Option.{none-some, same_Some}
use Rattle.std.proofs.lemmas.Bool.{ltb-false}
use Rattle.base_library.proofs.Each.{each_left, each_right}
use Rattle.base_library.proofs.Passes.{list_any-map}
use Rattle.std.proofs.Math.Bool.{or-false, and-true, and_assoc, or_assoc}
use Rattle.obligations.specs.Named.{formula_named, choice_named}
use Rattle.loop_shape.specs.LoopShape.{IsPosition, after}
use Rattle.loop_shape.proofs.Untils.{until_unrolls}
use Rattle.loop_shape.proofs.Words.{release_unrolls}
use Rattle.ltl_formula.specs.LtlTree.{LtlTree, LtlTrees, top, bottom, bit, not_bit, conjunction, disjunction, next, until, release}
use Rattle.ltl_formula.specs.LtlTree.{no_formulas, more_formulas}
use Rattle.ltl_formula.specs.LtlOrder.{tree_cmp}
use Rattle.ltl_formula.specs.Increasing.{IsIncreasing}
use Rattle.ltl_formula.specs.LetterLoop.{LetterLoop, shape_of, letter_at, bit_holds, holds, holds_all, holds_any}
use Rattle.ltl_formula.specs.Cubes.{has_bit, cube_matches}
use Rattle.obligations.specs.Choices.{letter_bits, empty_choice, bit_choices, not_bit_choices, goes_on, puts_off, then_list, formed}
use Rattle.obligations.specs.Choices.{product}
use Rattle.obligations.specs.Expansion.{ChoiceTree, expansion_by, all_choices_by, any_choices_by, choices_from, expansion, choices}
use Rattle.obligations.specs.Numbers.{ChoiceKey, formula_number}
use Rattle.obligations.specs.Obligations.{obligations, obligations_of_all, closure_of}
use Rattle.obligations.specs.StepLaw.{is_true_with, is_true_choice, is_waited_for, is_good}
use Rattle.obligations.proofs.FormulaNumbers.{is_named, numbered}
use Rattle.obligations.proofs.NamedChoices.{Agrees, AreWell, expansion_agrees, choices_agree, empty_well, goes_on_agree, puts_off_agree}
use Rattle.obligations.proofs.NamedChoices.{names_are_enough, names_rise}
use Rattle.obligations.proofs.StepTruth.{t, literal_is, literal_is_not, of_product, of_sum}

then_some : (x : Option (List ChoiceKey)) (go : List ChoiceKey → Option (List ChoiceKey)) (r : List ChoiceKey) → then_list x go ≡ Some r
    → (ys : List ChoiceKey) × (x ≡ Some ys) × (go ys ≡ Some r)
then_some None go r h = absurd (none-some r h)
then_some (Some ys) go r h = (ys, refl, h)

module _ (loop : LetterLoop) (i : ℕ) (position : IsPosition (shape_of loop) i) (letter : ℕ) (here : letter_at loop i ≡ Some letter)
    (fits : letter < 2 ^ 64)
    (test : LtlTree → Bool)
    (unrolls : (a b : LtlTree) → (holds loop b i || (holds loop a i
    && (holds loop (until a b) (after (shape_of loop) i) && test (until a b)))) ≡ holds loop (until a b) i) where
  abbrev later : LtlTree → Bool
  later f = holds loop f (after (shape_of loop) i)

  no_care : (c : Bool) → (cube_matches 0 0 letter && c) ≡ c
  no_care c = ap (λ n. (n == 0) && c) (and_zero_r letter)

  module _ (names : List LtlTree) (rising : IsIncreasing tree_cmp names) where
    abbrev is : ChoiceKey → Bool
    is c = t names rising letter later test c

    abbrev AreAllNamed : List LtlTree → Type 0
    AreAllNamed fs = AllByRecursion (λ g. is_named names g ≡ true) fs

    well_of : (f : LtlTree) → AreAllNamed (obligations f) → (r : List ChoiceKey) →
        expansion_by nat_eq nat_cmp (formula_number names) f ≡ Some r → AreWell names rising r
    well_of f has r at = (subst (λ x. Agrees names rising x (expansion f)) at (expansion_agrees names rising f has)).1

    of_empty : is empty_choice ≡ true
    of_empty = no_care true

    of_goes_on : (n : ℕ) (f : LtlTree) → formula_named names n ≡ f → is (goes_on n) ≡ later f
    of_goes_on n f same = no_care ((later (formula_named names n) && true) && true) ∙ and-true (later (formula_named names n) && true)
        ∙ and-true (later (formula_named names n)) ∙ ap later same

    of_puts_off : (n : ℕ) (u : LtlTree) → formula_named names n ≡ u → is (puts_off n) ≡ (later u && test u)
    of_puts_off n u same =
        no_care ((later (formula_named names n) && true) && (test (formula_named names n) && true))
        ∙ (λ k. and-true (later (formula_named names n)) k && and-true (test (formula_named names n)) k)
        ∙ ap (λ f. later f && test f) same

    one : (c : ChoiceKey) (r : List ChoiceKey) → Some (c ∷ []) ≡ Some r → list_any is r ≡ is c
    one c r h = ap (list_any is) (sym (same_Some (c ∷ []) r h)) ∙ or-false (is c)

    has_letter : (b : ℕ) → bit_holds loop b i ≡ has_bit b letter
    has_letter b = ap (λ o. option_map_or (has_bit b) o false) here

    no_high_bit : (b : ℕ) → nat_lt b letter_bits ≡ false → has_bit b letter ≡ false
    no_high_bit b high = ap (λ n. n == 1) (bit_at_above letter 64 b fits (ltb-false b 64 high))

    of_bit : (b : ℕ) (r : List ChoiceKey) → Some (bit_choices b) ≡ Some r → list_any is r ≡ bit_holds loop b i
    of_bit b r h = ap (list_any is) (sym (same_Some (bit_choices b) r h)) ∙ by (nat_lt b letter_bits) refl ∙ sym (has_letter b)
      where
        by : (l : Bool) → nat_lt b letter_bits ≡ l → list_any is (cond l
            ((record { care = 2 ^ b; want = 2 ^ b; next_set = []; postponed = [] }) ∷ []) []) ≡ has_bit b letter
        by true low = or-false (cube_matches (2 ^ b) (2 ^ b) letter && true) ∙ and-true (cube_matches (2 ^ b) (2 ^ b) letter)
            ∙ literal_is letter b
        by false high = sym (no_high_bit b high)

    of_not_bit : (b : ℕ) (r : List ChoiceKey) → Some (not_bit_choices b) ≡ Some r → list_any is r ≡ not (bit_holds loop b i)
    of_not_bit b r h = ap (list_any is) (sym (same_Some (not_bit_choices b) r h)) ∙ by (nat_lt b letter_bits) refl
        ∙ ap not (sym (has_letter b))
      where
        by : (l : Bool) → nat_lt b letter_bits ≡ l → list_any is (cond l
            ((record { care = 2 ^ b; want = 0; next_set = []; postponed = [] }) ∷ []) (empty_choice ∷ [])) ≡ not (has_bit b letter)
        by true low = or-false (cube_matches (2 ^ b) 0 letter && true) ∙ and-true (cube_matches (2 ^ b) 0 letter) ∙ literal_is_not letter b
        by false high = or-false (is empty_choice) ∙ of_empty ∙ ap not (sym (no_high_bit b high))

    mutual
      pub expands : (f : LtlTree) → AreAllNamed (obligations f) → (r : List ChoiceKey) →
          expansion_by nat_eq nat_cmp (formula_number names) f ≡ Some r → list_any is r ≡ holds loop f i
      expands top has r h = one empty_choice r h ∙ of_empty
      expands bottom has r h = ap (list_any is) (sym (same_Some [] r h))
      expands (bit b) has r h = of_bit b r h
      expands (not_bit b) has r h = of_not_bit b r h
      expands (conjunction fs) has r h =
          all_expand (empty_choice ∷ []) fs (empty_well names rising, tt) has r h ∙ ap (λ b. (b || false) && holds_all loop fs i) of_empty
      expands (disjunction fs) has r h = any_expand [] fs tt has r h
      expands (next f) has r h = let n = numbered names f has.0 in one (goes_on (formula_number names f)) r h
          ∙ of_goes_on (formula_number names f) f n.1
      expands (until a b) has r h =
          let n = numbered names (until a b) has.0 in
          let own = (puts_off_agree names rising (formula_number names (until a b)) (until a b) n.0 n.1).1 in
          let has_a = each_left (λ g. is_named names g ≡ true) (obligations a) (obligations b) has.1 in
          let has_b = each_right (λ g. is_named names g ≡ true) (obligations a) (obligations b) has.1 in
          let now = then_some (expansion_by nat_eq nat_cmp (formula_number names) b) _ r h in
          let late = then_some (expansion_by nat_eq nat_cmp (formula_number names) a) _ r now.2 in
          let put = then_some (product nat_eq nat_cmp late.0 (puts_off (formula_number names (until a b)) ∷ [])) _ r late.2 in
          let made = of_product names rising letter later test late.0 (puts_off (formula_number names (until a b)) ∷ []) put.0
          (well_of a has_a late.0 late.1) own put.1 in
          (of_sum names rising letter later test now.0 put.0 r (well_of b has_b now.0 now.1) made.0 put.2).1
          ∙ (λ k. expands b has_b now.0 now.1 k || made.1 k)
          ∙ (λ k. holds loop b i || (expands a has_a late.0 late.1 k &&
          (or-false (is (puts_off (formula_number names (until a b))))
          ∙ of_puts_off (formula_number names (until a b)) (until a b) n.1) k))
          ∙ unrolls a b
      expands (release a b) has r h =
          let n = numbered names (release a b) has.0 in
          let own = (goes_on_agree names rising (formula_number names (release a b)) (release a b) n.0 n.1).1 in
          let has_a = each_left (λ g. is_named names g ≡ true) (obligations a) (obligations b) has.1 in
          let has_b = each_right (λ g. is_named names g ≡ true) (obligations a) (obligations b) has.1 in
          let held = then_some (expansion_by nat_eq nat_cmp (formula_number names) b) _ r h in
          let freed = then_some (expansion_by nat_eq nat_cmp (formula_number names) a) _ r held.2 in
          let ends = then_some (formed nat_eq (freed.0 ++ goes_on (formula_number names (release a b)) ∷ [])) _ r freed.2 in
          let made = of_sum names rising letter later test freed.0 (goes_on (formula_number names (release a b)) ∷ []) ends.0
          (well_of a has_a freed.0 freed.1) own ends.1 in
          (of_product names rising letter later test held.0 ends.0 r (well_of b has_b held.0 held.1) made.0 ends.2).1
          ∙ (λ k. expands b has_b held.0 held.1 k && made.1 k)
          ∙ (λ k. holds loop b i && (expands a has_a freed.0 freed.1 k
          || (or-false (is (goes_on (formula_number names (release a b))))
          ∙ of_goes_on (formula_number names (release a b)) (release a b) n.1) k))
          ∙ sym (release_unrolls (shape_of loop) i position (holds loop a) (holds loop b))

      pub all_expand : (so_far : List ChoiceKey) (fs : LtlTrees) → AreWell names rising so_far → AreAllNamed (obligations_of_all fs) →
          (r : List ChoiceKey)
          → all_choices_by nat_eq nat_cmp (formula_number names) so_far fs ≡ Some r →
          list_any is r ≡ (list_any is so_far && holds_all loop fs i)
      all_expand so_far no_formulas well has r h = ap (list_any is) (sym (same_Some so_far r h)) ∙ sym (and-true (list_any is so_far))
      all_expand so_far (more_formulas f fs) well has r h =
          let has_f = each_left (λ g. is_named names g ≡ true) (obligations f) (obligations_of_all fs) has in
          let has_fs = each_right (λ g. is_named names g ≡ true) (obligations f) (obligations_of_all fs) has in
          let first = then_some (expansion_by nat_eq nat_cmp (formula_number names) f) _ r h in
          let more = then_some (product nat_eq nat_cmp so_far first.0) _ r first.2 in
          let made = of_product names rising letter later test so_far first.0 more.0 well (well_of f has_f first.0 first.1) more.1 in
          all_expand more.0 fs made.0 has_fs r more.2
          ∙ (λ k. made.1 k && holds_all loop fs i)
          ∙ (λ k. (list_any is so_far && expands f has_f first.0 first.1 k) && holds_all loop fs i)
          ∙ and_assoc (list_any is so_far) (holds loop f i) (holds_all loop fs i)

      pub any_expand : (so_far : List ChoiceKey) (fs : LtlTrees) → AreWell names rising so_far → AreAllNamed (obligations_of_all fs) →
          (r : List ChoiceKey)
          → any_choices_by nat_eq nat_cmp (formula_number names) so_far fs ≡ Some r →
          list_any is r ≡ (list_any is so_far || holds_any loop fs i)
      any_expand so_far no_formulas well has r h = ap (list_any is) (sym (same_Some so_far r h)) ∙ sym (or-false (list_any is so_far))
      any_expand so_far (more_formulas f fs) well has r h =
          let has_f = each_left (λ g. is_named names g ≡ true) (obligations f) (obligations_of_all fs) has in
          let has_fs = each_right (λ g. is_named names g ≡ true) (obligations f) (obligations_of_all fs) has in
          let first = then_some (expansion_by nat_eq nat_cmp (formula_number names) f) _ r h in
          let more = then_some (formed nat_eq (so_far ++ first.0)) _ r first.2 in
          let made = of_sum names rising letter later test so_far first.0 more.0 well (well_of f has_f first.0 first.1) more.1 in
          any_expand more.0 fs made.0 has_fs r more.2
          ∙ (λ k. made.1 k || holds_any loop fs i)
          ∙ (λ k. (list_any is so_far || expands f has_f first.0 first.1 k) || holds_any loop fs i)
          ∙ or_assoc (list_any is so_far) (holds loop f i) (holds_any loop fs i)

    set_expands : (so_far : List ChoiceKey) (fs : List LtlTree) → AreWell names rising so_far →
        AllByRecursion (λ f. AreAllNamed (obligations f)) fs → (r : List ChoiceKey)
        → choices_from nat_eq nat_cmp (formula_number names) so_far fs ≡ Some r →
        list_any is r ≡ (list_any is so_far && list_all (λ f. holds loop f i) fs)
    set_expands so_far [] well has r h = ap (list_any is) (sym (same_Some so_far r h)) ∙ sym (and-true (list_any is so_far))
    set_expands so_far (f ∷ fs) well has r h =
        let first = then_some (expansion_by nat_eq nat_cmp (formula_number names) f) _ r h in
        let more = then_some (product nat_eq nat_cmp so_far first.0) _ r first.2 in
        let made = of_product names rising letter later test so_far first.0 more.0 well (well_of f has.0 first.0 first.1) more.1 in
        set_expands more.0 fs made.0 has.1 r more.2
        ∙ (λ k. made.1 k && list_all (λ g. holds loop g i) fs)
        ∙ (λ k. (list_any is so_far && expands f has.0 first.0 first.1 k) && list_all (λ g. holds loop g i) fs)
        ∙ and_assoc (list_any is so_far) (holds loop f i) (list_all (λ g. holds loop g i) fs)

  pub set_law : (fs : List LtlTree) (cs : List ChoiceTree) → choices fs ≡ Some cs →
      list_all (λ f. holds loop f i) fs ≡ list_any (is_true_with letter later test) cs
  set_law fs cs at = by (choices_from nat_eq nat_cmp (formula_number (closure_of fs)) (empty_choice ∷ []) fs) refl
      (choices_agree (closure_of fs) (names_rise fs) (empty_choice ∷ []) fs (empty_well (closure_of fs) (names_rise fs), tt)
      (names_are_enough fs))
    where
      by : (x : Option (List ChoiceKey)) → choices_from nat_eq nat_cmp (formula_number (closure_of fs)) (empty_choice ∷ []) fs ≡ x
          → Agrees (closure_of fs) (names_rise fs) x (choices fs) → list_all (λ f. holds loop f i) fs
          ≡ list_any (is_true_with letter later test) cs
      by None from agree = absurd (none-some cs (sym agree ∙ at))
      by (Some found) from agree =
          sym (set_expands (closure_of fs) (names_rise fs) (empty_choice ∷ []) fs (empty_well (closure_of fs) (names_rise fs), tt)
          (names_are_enough fs) found from
          ∙ ap (λ b. (b || false) && list_all (λ f. holds loop f i) fs) (of_empty (closure_of fs) (names_rise fs)))
          ∙ sym (list_any-map (choice_named (closure_of fs)) (is_true_with letter later test) found)
          ∙ ap (list_any (is_true_with letter later test)) (same_Some (map (choice_named (closure_of fs)) found) cs (sym agree.0 ∙ at))

module _ (loop : LetterLoop) (i letter : ℕ) (set : List LtlTree) (cs : List ChoiceTree) (position : IsPosition (shape_of loop) i)
    (here : letter_at loop i ≡ Some letter) (fits : letter < 2 ^ 64) (at : choices set ≡ Some cs) where
  pub some_true : list_all (λ f. holds loop f i) set ≡ list_any (is_true_choice loop i letter) cs
  some_true = set_law loop i position letter here fits (λ u. true)
      (λ a b. ap (λ u. holds loop b i || (holds loop a i && u)) (and-true (holds loop (until a b) (after (shape_of loop) i)))
      ∙ sym (until_unrolls (shape_of loop) (holds loop a) (holds loop b) i position)) set cs at

  waits : (b a u : Bool) → (b || (a && (u && (u && not b)))) ≡ (b || (a && u))
  waits true a u = refl
  waits false true true = refl
  waits false true false = refl
  waits false false u = refl

  pub some_good : list_all (λ f. holds loop f i) set ≡ list_any (is_good loop i letter) cs
  some_good = set_law loop i position letter here fits (is_waited_for loop i)
      (λ a b. waits (holds loop b i) (holds loop a i) (holds loop (until a b) (after (shape_of loop) i))
      ∙ sym (until_unrolls (shape_of loop) (holds loop a) (holds loop b) i position)) set cs at
