-- The choices of an expansion are an antichain.
use Rattle.std.proofs.Common.{◌≡◌, ℕ, Bool, true, false, cond, nat_lt, nat_eq, List, [], ◌∷◌, ◌++◌, length, Option, Some, None, ◌^◌, refl, subst}
use Rattle.std.specs.Ordering.{nat_cmp}
use Rattle.std.proofs.lemmas.Option.{none-some, same_Some}
use Rattle.ltl_formula.specs.LtlTree.{LtlTree, top, bottom, bit, not_bit, conjunction, disjunction, next, until, release, LtlTrees}
use Rattle.ltl_formula.specs.LtlTree.{no_formulas, more_formulas}
use Rattle.obligations.specs.Choices.{then_list, formed, product, joins, most_choices, reduced, letter_bits, empty_choice, puts_off, goes_on, bit_choices, not_bit_choices}
use Rattle.obligations.specs.Expansion.{expansion_by, all_choices_by, any_choices_by}
use Rattle.obligations.specs.Numbers.{ChoiceKey}
use Rattle.obligations.specs.internal.Antichains.{IsAntichain}
use Rattle.obligations.proofs.Antichains.{reduced_is_antichain}

pub formed_antichain : (cs list : List ChoiceKey) → formed nat_eq cs ≡ Some list → IsAntichain list
formed_antichain cs list h = by (nat_lt most_choices (length cs)) h
  where
    by : (b : Bool) → cond b None (Some (reduced nat_eq cs)) ≡ Some list → IsAntichain list
    by true is = absurd (none-some list is)
    by false is = subst IsAntichain (same_Some (reduced nat_eq cs) list is) (reduced_is_antichain cs)

pub product_antichain : (left right list : List ChoiceKey) → product nat_eq nat_cmp left right ≡ Some list → IsAntichain list
product_antichain left right list h = formed_antichain (joins nat_eq nat_cmp left right) list h

-- what is made of a list that is there
then_some : (P : Type 0) (list : List ChoiceKey) (o : Option (List ChoiceKey)) (go : List ChoiceKey → Option (List ChoiceKey))
    → ((l : List ChoiceKey) → o ≡ Some l → go l ≡ Some list → P) → then_list o go ≡ Some list → P
then_some P list None go k h = absurd (none-some list h)
then_some P list (Some l) go k h = k l refl h

module _ (name : LtlTree → ℕ) where
  all_antichain : (fs : LtlTrees) (so_far list : List ChoiceKey) → IsAntichain so_far → all_choices_by nat_eq nat_cmp name so_far fs ≡ Some list
      → IsAntichain list
  all_antichain no_formulas so_far list anti h = subst IsAntichain (same_Some so_far list h) anti
  all_antichain (more_formulas f fs) so_far list anti h =
      then_some (IsAntichain list) list (expansion_by nat_eq nat_cmp name f)
      (λ cs. then_list (product nat_eq nat_cmp so_far cs) (λ more. all_choices_by nat_eq nat_cmp name more fs))
      (λ cs there rest. then_some (IsAntichain list) list (product nat_eq nat_cmp so_far cs) (λ more. all_choices_by nat_eq nat_cmp name more fs)
      (λ more made end. all_antichain fs more list (product_antichain so_far cs more made) end) rest) h

  any_antichain : (fs : LtlTrees) (so_far list : List ChoiceKey) → IsAntichain so_far → any_choices_by nat_eq nat_cmp name so_far fs ≡ Some list
      → IsAntichain list
  any_antichain no_formulas so_far list anti h = subst IsAntichain (same_Some so_far list h) anti
  any_antichain (more_formulas f fs) so_far list anti h =
      then_some (IsAntichain list) list (expansion_by nat_eq nat_cmp name f)
      (λ cs. then_list (formed nat_eq (so_far ++ cs)) (λ more. any_choices_by nat_eq nat_cmp name more fs))
      (λ cs there rest. then_some (IsAntichain list) list (formed nat_eq (so_far ++ cs)) (λ more. any_choices_by nat_eq nat_cmp name more fs)
      (λ more made end. any_antichain fs more list (formed_antichain (so_far ++ cs) more made) end) rest) h

  one : (c : ChoiceKey) (list : List ChoiceKey) → Some (c ∷ []) ≡ Some list → IsAntichain list
  one c list h = subst IsAntichain (same_Some (c ∷ []) list h) (tt, tt)

  pub expansion_antichain : (f : LtlTree) (list : List ChoiceKey) → expansion_by nat_eq nat_cmp name f ≡ Some list → IsAntichain list
  expansion_antichain top list h = one empty_choice list h
  expansion_antichain bottom list h = subst IsAntichain (same_Some [] list h) tt
  expansion_antichain (bit b) list h = subst IsAntichain (same_Some (bit_choices b) list h) (by (nat_lt b letter_bits))
    where
      by : (t : Bool) → IsAntichain (cond t ((record { care = 2 ^ b; want = 2 ^ b; next_set = []; postponed = [] }) ∷ []) [])
      by true = (tt, tt)
      by false = tt
  expansion_antichain (not_bit b) list h = subst IsAntichain (same_Some (not_bit_choices b) list h) (by (nat_lt b letter_bits))
    where
      by : (t : Bool) → IsAntichain (cond t ((record { care = 2 ^ b; want = 0; next_set = []; postponed = [] }) ∷ []) (empty_choice ∷ []))
      by true = (tt, tt)
      by false = (tt, tt)
  expansion_antichain (conjunction fs) list h = all_antichain fs (empty_choice ∷ []) list (tt, tt) h
  expansion_antichain (disjunction fs) list h = any_antichain fs [] list tt h
  expansion_antichain (next f) list h = one (goes_on (name f)) list h
  expansion_antichain (until a b) list h =
      then_some (IsAntichain list) list (expansion_by nat_eq nat_cmp name b)
      (λ now. then_list (expansion_by nat_eq nat_cmp name a) (λ later.
      then_list (product nat_eq nat_cmp later (puts_off (name (until a b)) ∷ [])) (λ put_off. formed nat_eq (now ++ put_off))))
      (λ now there rest. then_some (IsAntichain list) list (expansion_by nat_eq nat_cmp name a) (λ later.
      then_list (product nat_eq nat_cmp later (puts_off (name (until a b)) ∷ [])) (λ put_off. formed nat_eq (now ++ put_off)))
      (λ later here more. then_some (IsAntichain list) list (product nat_eq nat_cmp later (puts_off (name (until a b)) ∷ []))
      (λ put_off. formed nat_eq (now ++ put_off)) (λ put_off made end. formed_antichain (now ++ put_off) list end) more) rest) h
  expansion_antichain (release a b) list h =
      then_some (IsAntichain list) list (expansion_by nat_eq nat_cmp name b)
      (λ held. then_list (expansion_by nat_eq nat_cmp name a) (λ freed.
      then_list (formed nat_eq (freed ++ goes_on (name (release a b)) ∷ [])) (λ ends. product nat_eq nat_cmp held ends)))
      (λ held there rest. then_some (IsAntichain list) list (expansion_by nat_eq nat_cmp name a) (λ freed.
      then_list (formed nat_eq (freed ++ goes_on (name (release a b)) ∷ [])) (λ ends. product nat_eq nat_cmp held ends))
      (λ freed here more. then_some (IsAntichain list) list (formed nat_eq (freed ++ goes_on (name (release a b)) ∷ []))
      (λ ends. product nat_eq nat_cmp held ends) (λ ends made end. product_antichain held ends list end) more) rest) h
