-- What steps from a formula may leave is closed: what steps from it may leave is among it.
use Rattle.std.proofs.Common.{◌≡◌, ℕ, ◌<◌, true, nat_eq, List, [], ◌∷◌, length, map, Option, Some, None, sym, subst}
use Rattle.std.specs.Prelude.{unwrap_or}
use Rattle.std.specs.List.{AllByRecursion}
use Rattle.std.specs.Ordering.{nat_cmp}
use Rattle.base_library.proofs.Each.{each_at, each_joined, each_left, each_right}
use Rattle.base_library.proofs.Places.{slice_get_some}
use Rattle.ltl_formula.specs.LtlTree.{LtlTree, LtlTrees, top, bottom, bit, not_bit, conjunction, disjunction, next, until, release}
use Rattle.ltl_formula.specs.LtlTree.{no_formulas, more_formulas}
use Rattle.ltl_formula.specs.LtlOrder.{tree_cmp}
use Rattle.ltl_formula.proofs.IncreasingLemmas.{each-union}
use Rattle.obligations.specs.Choices.{empty_choice}
use Rattle.obligations.specs.Expansion.{choices_from, choices}
use Rattle.obligations.specs.Numbers.{ChoiceKey, formula_number}
use Rattle.obligations.specs.Named.{formula_named, choice_named, IsWell}
use Rattle.obligations.specs.Obligations.{obligations, obligations_of_all, reachable, closure_of}
use Rattle.obligations.proofs.FormulaNumbers.{is_named}
use Rattle.obligations.proofs.NamedChoices.{Agrees, choices_agree, empty_well, names_are_enough}
use Rattle.obligations.proofs.StepLemmas.{rising}

-- what holds of each formula that steps from a formula may leave holds of each that steps from those may leave
module _ (P : LtlTree → Type 0) where
  abbrev HoldsOfAll : LtlTree → Type 0
  HoldsOfAll g = AllByRecursion P (obligations g)

  mutual
    obligations_close : (f : LtlTree) → AllByRecursion P (obligations f) → AllByRecursion HoldsOfAll (obligations f)
    obligations_close top each = tt
    obligations_close bottom each = tt
    obligations_close (bit b) each = tt
    obligations_close (not_bit b) each = tt
    obligations_close (conjunction fs) each = all_close fs each
    obligations_close (disjunction fs) each = all_close fs each
    obligations_close (next a) each = (each.1, obligations_close a each.1)
    obligations_close (until a b) each = (
      each,
      each_joined HoldsOfAll (obligations a) (obligations b)
          (obligations_close a (each_left P (obligations a) (obligations b) each.1))
          (obligations_close b (each_right P (obligations a) (obligations b) each.1)),
    )
    obligations_close (release a b) each = (
      each,
      each_joined HoldsOfAll (obligations a) (obligations b)
          (obligations_close a (each_left P (obligations a) (obligations b) each.1))
          (obligations_close b (each_right P (obligations a) (obligations b) each.1)),
    )

    all_close : (fs : LtlTrees) → AllByRecursion P (obligations_of_all fs) → AllByRecursion HoldsOfAll (obligations_of_all fs)
    all_close no_formulas each = tt
    all_close (more_formulas f fs) each = each_joined HoldsOfAll (obligations f) (obligations_of_all fs)
        (obligations_close f (each_left P (obligations f) (obligations_of_all fs) each))
        (all_close fs (each_right P (obligations f) (obligations_of_all fs) each))

-- the choices of a set of formulas that a formula's steps may leave, over numbers and over formulas
module _ (f : LtlTree) (names : List LtlTree) (is : names ≡ closure_of (f ∷ [])) where
  abbrev IsClosed : LtlTree → Type 0
  IsClosed g = AllByRecursion (λ h. is_named names h ≡ true) (obligations g)

  closed : AllByRecursion IsClosed names
  closed =
      let enough : IsClosed f = subst (λ ns. AllByRecursion (λ h. is_named ns h ≡ true) (obligations f)) (sym is)
      (names_are_enough (f ∷ [])).0 in
      subst (AllByRecursion IsClosed) (sym is)
      (each-union tree_cmp IsClosed [] (reachable (f ∷ [])) tt
      (each_joined IsClosed (f ∷ obligations f) [] (enough, obligations_close (λ h. is_named names h ≡ true) f enough) tt))

  members_closed : (ns : List ℕ) → AllByRecursion (λ n. n < length names) ns → AllByRecursion IsClosed (map (formula_named names) ns)
  members_closed [] within = tt
  members_closed (n ∷ ns) within =
      let at = slice_get_some names n within.0 in (
        subst (λ o. IsClosed (unwrap_or o top)) (sym at.1) (each_at IsClosed names n at.0 closed at.1),
        members_closed ns within.1,
      )

  module _ (ns : List ℕ) (within : AllByRecursion (λ n. n < length names) ns) where
    abbrev over_numbers : Option (List ChoiceKey)
    over_numbers = choices_from nat_eq nat_cmp (formula_number names) (empty_choice ∷ []) (map (formula_named names) ns)

    agree : Agrees names (rising (f ∷ []) names is) over_numbers (choices (map (formula_named names) ns))
    agree = choices_agree names (rising (f ∷ []) names is) (empty_choice ∷ []) (map (formula_named names) ns)
        (empty_well names (rising (f ∷ []) names is), tt) (members_closed ns within)

    pub set_found : (cs : List ChoiceKey) → over_numbers ≡ Some cs →
        choices (map (formula_named names) ns) ≡ Some (map (choice_named names) cs)
    set_found cs at = (subst (λ x. Agrees names (rising (f ∷ []) names is) x (choices (map (formula_named names) ns))) at agree).0

    pub set_well : (cs : List ChoiceKey) → over_numbers ≡ Some cs → AllByRecursion (IsWell names) cs
    set_well cs at = (subst (λ x. Agrees names (rising (f ∷ []) names is) x (choices (map (formula_named names) ns))) at agree).1

    pub set_none : over_numbers ≡ None → choices (map (formula_named names) ns) ≡ None
    set_none at = subst (λ x. Agrees names (rising (f ∷ []) names is) x (choices (map (formula_named names) ns))) at agree
