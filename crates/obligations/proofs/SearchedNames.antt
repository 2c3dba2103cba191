-- What a binary search finds among rising formulas.
use Rattle.std.proofs.Common.{◌≡◌, ◌∙◌, ℕ, zero, suc, ◌+◌, ◌<◌, ◌≤◌, true, false, cond, not, List, [], ◌∷◌, ◌++◌, length, take, drop}
use Rattle.std.proofs.Common.{Bor, refl, sym, ap, subst, arith}
use Rattle.std.specs.List.{AllByRecursion, AllWithin, HoldsAt, slice_index_or}
use Rattle.std.specs.List.Sorted.{IsNonDecreasingBy, IsPartitionPoint, IsPartitionedBy}
use Rattle.std.specs.Ordering.{match_ordering, ordering_index, ordering_reverse, is_eq, is_lt}
use Rattle.std.proofs.lemmas.Bool.{false≢true}
use Rattle.std.specs.declared.cmp.Ordering.{Ordering}
use Rattle.std.specs.declared.cmp.Ordering.TheVariants.{Less, Equal, Greater}
use Rattle.ltl_formula.specs.declared.formula.Ltl.{Ltl}
use Rattle.ltl_formula.specs.LtlTree.{LtlTree, ltl_tree}
use Rattle.ltl_formula.specs.LtlOrder.{tree_cmp}
use Rattle.ltl_formula.specs.Increasing.{IsIncreasing, with_member}
use Rattle.ltl_formula.proofs.LtlOrderLaws.{tree_cmp_total, equal_trees}
use Rattle.obligations.specs.Expansion.{same_formula}
use Rattle.obligations.specs.Numbers.{lent_trees, formula_number}
use Rattle.obligations.specs.internal.Searching.{IsAt, IsNotAt}

module _ (f : LtlTree) where
  -- how a formula stands to this one
  abbrev stands : Bor Ltl → Ordering
  stands g = tree_cmp (ltl_tree g.now) f

  turned : (g : LtlTree) (o : Ordering) → tree_cmp g f ≡ o → tree_cmp f g ≡ ordering_reverse o
  turned g o is = tree_cmp_total.antisymm f g ∙ ap ordering_reverse is

  unlike : (g : LtlTree) (o : Ordering) → tree_cmp g f ≡ o → is_eq o ≡ false → not (same_formula g f) ≡ true
  unlike g o is differs = ap (λ p. not (is_eq p)) is ∙ ap not differs

  -- ---- a gap: formulas before it are below this one, and those after it above

  pub new_member : (names : List (Bor Ltl)) (i : ℕ) → AllWithin (λ g. stands g ≡ Less) names 0 i
      → AllWithin (λ g. stands g ≡ Greater) names i (length names)
      → with_member tree_cmp f (lent_trees names) ≡ lent_trees (take i names) ++ f ∷ lent_trees (drop i names)
  new_member [] zero below above = refl
  new_member [] (suc i) below above = refl
  new_member (g ∷ names) zero below above =
      ap (λ o. match_ordering o (f ∷ lent_trees (g ∷ names)) (lent_trees (g ∷ names)) (ltl_tree g.now ∷ with_member tree_cmp f (lent_trees names)))
      (turned (ltl_tree g.now) Greater (above 0 g (omega arith) (omega arith)))
  new_member (g ∷ names) (suc i) below above =
      ap (λ o. match_ordering o (f ∷ lent_trees (g ∷ names)) (lent_trees (g ∷ names)) (ltl_tree g.now ∷ with_member tree_cmp f (lent_trees names)))
      (turned (ltl_tree g.now) Less (below 0 g (omega arith) (omega arith)))
      ∙ ap (λ l. ltl_tree g.now ∷ l) (new_member names i (λ k d low high. below (suc k) d (omega arith) (omega (arith, high)))
      (λ k d low high. above (suc k) d (omega (arith, low)) (omega (arith, high))))

  pub new_number : (names : List (Bor Ltl)) (i : ℕ) → AllWithin (λ g. stands g ≡ Less) names 0 i
      → AllWithin (λ g. stands g ≡ Greater) names i (length names) → formula_number (lent_trees names) f ≡ length names
  new_number [] i below above = refl
  new_number (g ∷ names) zero below above =
      let rest = new_number names zero (λ k d low high. absurd (omega (arith, high)))
      (λ k d low high. above (suc k) d (omega arith) (omega (arith, high))) in
      ap (λ b. cond b (1 + formula_number (lent_trees names) f) 0)
      (unlike (ltl_tree g.now) Greater (above 0 g (omega arith) (omega arith)) refl) ∙ omega (arith, rest)
  new_number (g ∷ names) (suc i) below above =
      let rest = new_number names i (λ k d low high. below (suc k) d (omega arith) (omega (arith, high)))
      (λ k d low high. above (suc k) d (omega (arith, low)) (omega (arith, high))) in
      ap (λ b. cond b (1 + formula_number (lent_trees names) f) 0)
      (unlike (ltl_tree g.now) Less (below 0 g (omega arith) (omega arith)) refl) ∙ omega (arith, rest)

  -- ---- a place: the formula there is this one

  above_first : (g : LtlTree) (names : List (Bor Ltl)) (i : ℕ) (d : Bor Ltl) → AllByRecursion (λ h. tree_cmp g h ≡ Less) (lent_trees names)
      → i < length names → tree_cmp g (ltl_tree (slice_index_or names i d).now) ≡ Less
  above_first g [] i d each within = absurd (omega (arith, within))
  above_first g (h ∷ names) zero d each within = each.0
  above_first g (h ∷ names) (suc i) d each within = above_first g names i d each.1 (omega (arith, within))

  module _ (names : List (Bor Ltl)) where
    below_here : (g : Bor Ltl) (i : ℕ) → IsIncreasing tree_cmp (lent_trees (g ∷ names)) → i < length names
        → HoldsAt (λ h. stands h ≡ Equal) names i → tree_cmp (ltl_tree g.now) f ≡ Less
    below_here g i up within here =
        subst (λ h. tree_cmp (ltl_tree g.now) h ≡ Less) (equal_trees (ltl_tree (slice_index_or names i g).now) f (here g))
        (above_first (ltl_tree g.now) names i g up.0 within)

  pub old_member : (names : List (Bor Ltl)) (i : ℕ) → IsIncreasing tree_cmp (lent_trees names) → i < length names
      → HoldsAt (λ g. stands g ≡ Equal) names i → with_member tree_cmp f (lent_trees names) ≡ lent_trees names
  old_member [] i up within here = absurd (omega (arith, within))
  old_member (g ∷ names) zero up within here =
      ap (λ o. match_ordering o (f ∷ lent_trees (g ∷ names)) (lent_trees (g ∷ names)) (ltl_tree g.now ∷ with_member tree_cmp f (lent_trees names)))
      (turned (ltl_tree g.now) Equal (here g))
  old_member (g ∷ names) (suc i) up within here =
      ap (λ o. match_ordering o (f ∷ lent_trees (g ∷ names)) (lent_trees (g ∷ names)) (ltl_tree g.now ∷ with_member tree_cmp f (lent_trees names)))
      (turned (ltl_tree g.now) Less (below_here names g i up (omega (arith, within)) (λ d. here d)))
      ∙ ap (λ l. ltl_tree g.now ∷ l) (old_member names i up.1 (omega (arith, within)) (λ d. here d))

  pub old_number : (names : List (Bor Ltl)) (i : ℕ) → IsIncreasing tree_cmp (lent_trees names) → i < length names
      → HoldsAt (λ g. stands g ≡ Equal) names i → i ≡ formula_number (lent_trees names) f
  old_number [] i up within here = absurd (omega (arith, within))
  old_number (g ∷ names) zero up within here =
      sym (ap (λ o. cond (not (is_eq o)) (1 + formula_number (lent_trees names) f) 0) (here g))
  old_number (g ∷ names) (suc i) up within here =
      let rest = old_number names i up.1 (omega (arith, within)) (λ d. here d) in
      sym (ap (λ b. cond b (1 + formula_number (lent_trees names) f) 0)
      (unlike (ltl_tree g.now) Less (below_here names g i up (omega (arith, within)) (λ d. here d)) refl) ∙ omega (arith, rest))

  -- ---- the comparisons rise along the list

  steps_up : (g h : LtlTree) → tree_cmp g h ≡ Less → ordering_index (tree_cmp g f) ≤ ordering_index (tree_cmp h f)
  steps_up g h less = by (tree_cmp h f) refl
    where
      by : (o : Ordering) → tree_cmp h f ≡ o → ordering_index (tree_cmp g f) ≤ ordering_index o
      by Less is = subst (λ o. ordering_index o ≤ 0) (sym (tree_cmp_total.trans g h f less is)) (omega arith)
      by Equal is = subst (λ o. ordering_index o ≤ 1) (sym (subst (λ x. tree_cmp g x ≡ Less) (equal_trees h f is) less)) (omega arith)
      by Greater is = at_most_two (tree_cmp g f)
        where
          at_most_two : (o : Ordering) → ordering_index o ≤ 2
          at_most_two Less = omega arith
          at_most_two Equal = omega arith
          at_most_two Greater = omega arith

  pub comparisons_rise : (names : List (Bor Ltl)) → IsIncreasing tree_cmp (lent_trees names)
      → IsNonDecreasingBy (λ g. ordering_index (stands g)) names
  comparisons_rise [] up i j d le within = absurd (omega (arith, within))
  comparisons_rise (g ∷ names) up zero zero d le within = omega arith
  comparisons_rise (g ∷ names) up zero (suc j) d le within =
      steps_up (ltl_tree g.now) (ltl_tree (slice_index_or names j d).now) (above_first (ltl_tree g.now) names j d up.0 (omega (arith, within)))
  comparisons_rise (g ∷ names) up (suc i) zero d le within = absurd (omega (arith, le))
  comparisons_rise (g ∷ names) up (suc i) (suc j) d le within = comparisons_rise names up.1 i j d (omega (arith, le)) (omega (arith, within))

  -- those below stand before the others
  pub parted : (names : List (Bor Ltl)) → IsIncreasing tree_cmp (lent_trees names) → IsPartitionedBy (λ g. is_lt (stands g)) names
  parted names up i j d le within lower =
      by (stands (slice_index_or names i d)) (stands (slice_index_or names j d)) (comparisons_rise names up i j d le within) lower
    where
      by : (o p : Ordering) → ordering_index o ≤ ordering_index p → is_lt p ≡ true → is_lt o ≡ true
      by Less p le lower = refl
      by Equal Less le lower = absurd (omega (arith, le))
      by Greater Less le lower = absurd (omega (arith, le))
      by o Equal le lower = absurd (false≢true lower)
      by o Greater le lower = absurd (false≢true lower)

  is_less : (o : Ordering) → is_lt o ≡ true → o ≡ Less
  is_less Less h = refl
  is_less Equal h = absurd (false≢true h)
  is_less Greater h = absurd (false≢true h)

  module _ (names : List (Bor Ltl)) (up : IsIncreasing tree_cmp (lent_trees names)) (place : ℕ)
      (parts : IsPartitionPoint (λ g. is_lt (stands g) ≡ true) (λ g. is_lt (stands g) ≡ false) names place) where
    below : AllWithin (λ g. stands g ≡ Less) names 0 place
    below k d low high = is_less (stands (slice_index_or names k d)) (parts.0 k d low high)

    above : (place < length names → (d : Bor Ltl) → is_eq (stands (slice_index_or names place d)) ≡ false)
        → AllWithin (λ g. stands g ≡ Greater) names place (length names)
    above differs k d low high =
        by (stands (slice_index_or names place d)) (stands (slice_index_or names k d)) (comparisons_rise names up place k d low high)
        (parts.1 place d (omega arith) (omega (arith, low, high))) (differs (omega (arith, low, high)) d)
      where
        by : (o p : Ordering) → ordering_index o ≤ ordering_index p → is_lt o ≡ false → is_eq o ≡ false → p ≡ Greater
        by Less p le lower same = absurd (false≢true (sym lower))
        by Equal p le lower same = absurd (false≢true (sym same))
        by Greater Less le lower same = absurd (omega (arith, le))
        by Greater Equal le lower same = absurd (omega (arith, le))
        by Greater Greater le lower same = refl

  is_equal : (o : Ordering) → is_eq o ≡ true → o ≡ Equal
  is_equal Equal h = refl
  is_equal Less h = absurd (false≢true h)
  is_equal Greater h = absurd (false≢true h)

-- the first of rising formulas that is not below a formula is that one, or stands where it belongs
module _ (f : LtlTree) (names : List (Bor Ltl)) (up : IsIncreasing tree_cmp (lent_trees names)) (place : ℕ) where
  pub has_number : IsAt names f place → place ≡ formula_number (lent_trees names) f
  has_number at = old_number f names place up at.within (λ d. is_equal f (tree_cmp (ltl_tree (slice_index_or names place d).now) f) (at.same d))

  pub has_member : IsAt names f place → with_member tree_cmp f (lent_trees names) ≡ lent_trees names
  has_member at = old_member f names place up at.within (λ d. is_equal f (tree_cmp (ltl_tree (slice_index_or names place d).now) f) (at.same d))

  module _ (parts : IsPartitionPoint (λ g. is_lt (tree_cmp (ltl_tree g.now) f) ≡ true) (λ g. is_lt (tree_cmp (ltl_tree g.now) f) ≡ false) names place)
      (differs : IsNotAt names f place) where
    pub takes_place : with_member tree_cmp f (lent_trees names) ≡ lent_trees (take place names) ++ f ∷ lent_trees (drop place names)
    takes_place = new_member f names place (below f names up place parts) (above f names up place parts differs)

    pub has_none : formula_number (lent_trees names) f ≡ length names
    has_none = new_number f names place (below f names up place parts) (above f names up place parts differs)
