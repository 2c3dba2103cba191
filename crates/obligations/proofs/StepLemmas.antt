-- The choices of a set over numbers are its choices.
use Rattle.std.proofs.Common.{◌≡◌, ℕ, ◌<◌, length, true, nat_eq, List, [], ◌∷◌, map, Some, None, sym, subst}
use Rattle.std.specs.List.{AllByRecursion}
use Rattle.std.specs.Ordering.{nat_cmp}
use Rattle.obligations.specs.Named.{formula_named, choice_named, IsWell}
use Rattle.ltl_formula.specs.LtlTree.{LtlTree}
use Rattle.ltl_formula.specs.LtlOrder.{tree_cmp}
use Rattle.ltl_formula.specs.Increasing.{IsIncreasing}
use Rattle.obligations.specs.Choices.{empty_choice}
use Rattle.obligations.specs.Expansion.{choices_from, choices}
use Rattle.obligations.specs.Numbers.{ChoiceKey, formula_number}
use Rattle.obligations.specs.Obligations.{obligations, closure_of}
use Rattle.obligations.proofs.FormulaNumbers.{is_named, rises-named}
use Rattle.obligations.proofs.NamedChoices.{Agrees, choices_agree, empty_well, names_are_enough, names_rise}

pub rises_seen : (names : List LtlTree) → IsIncreasing tree_cmp names → (ns seen : List ℕ) → seen ≡ ns →
    AllByRecursion (λ n. n < length names) ns → IsIncreasing nat_cmp ns
    → IsIncreasing tree_cmp (map (formula_named names) seen)
rises_seen names rising ns seen same within up = subst (λ ms. IsIncreasing tree_cmp (map (formula_named names) ms)) (sym same)
    (rises-named names rising ns within up)

pub rising : (fs names : List LtlTree) → names ≡ closure_of fs → IsIncreasing tree_cmp names
rising fs names is = subst (IsIncreasing tree_cmp) (sym is) (names_rise fs)

module _ (fs names : List LtlTree) (is : names ≡ closure_of fs) where
  agree : Agrees names (rising fs names is) (choices_from nat_eq nat_cmp (formula_number names) (empty_choice ∷ []) fs) (choices fs)
  agree =
      choices_agree names (rising fs names is) (empty_choice ∷ []) fs (empty_well names (rising fs names is), tt)
      (subst (λ ns. AllByRecursion (λ f. AllByRecursion (λ g. is_named ns g ≡ true) (obligations f)) fs) (sym is) (names_are_enough fs))

  pub found : (cs : List ChoiceKey) → choices_from nat_eq nat_cmp (formula_number names) (empty_choice ∷ []) fs ≡ Some cs →
      choices fs ≡ Some (map (choice_named names) cs)
  found cs at = (subst (λ x. Agrees names (rising fs names is) x (choices fs)) at agree).0

  pub found_well : (cs : List ChoiceKey) → choices_from nat_eq nat_cmp (formula_number names) (empty_choice ∷ []) fs ≡ Some cs →
      AllByRecursion (IsWell names) cs
  found_well cs at = (subst (λ x. Agrees names (rising fs names is) x (choices fs)) at agree).1

  pub none : choices_from nat_eq nat_cmp (formula_number names) (empty_choice ∷ []) fs ≡ None → choices fs ≡ None
  none at = subst (λ x. Agrees names (rising fs names is) x (choices fs)) at agree
