-- Classes of labels are classes of the free terms that they stand for.
use Rattle.std.proofs.Common.{◌≡◌, ◌∙◌, ◌↔◌, ℕ, zero, suc, ◌<◌, ◌==◌, Bool, true, false, List, [], ◌∷◌, length, map}
use Rattle.std.proofs.Common.{Option, Some, None, slice_get, get_or, refl, sym, ap, subst, arith, cond, eq-eqb}
use Rattle.std.specs.Prelude.{option_map, option_and_then}
use Rattle.std.specs.List.{AllByRecursion}
use Rattle.std.proofs.lemmas.Bool.{eqb-true, false≢true}
use Rattle.std.proofs.lemmas.Option.{none-some, same_Some, slice_get_within}
use Rattle.tsl_terms.specs.FreeTree.{FreeTree, leaf_at, applied, FreeTrees, no_free, more_free}
use Rattle.term_congruence.specs.internal.Shapes.{ShapeTree, leaf_shape, applied_shape, IsLabelOf, AreLabelsOf, AreDifferent, AllStand}
use Rattle.term_congruence.specs.internal.Closing.{AllOne, IsAllowed, IsClosed, by_classes, LabelPairTree, AreSmallest}
use Rattle.term_congruence.specs.internal.PairLabels.{ArePairLabels}
use Rattle.tsl_terms.specs.OneClass.{PairTree, AreAllIn, IsCongruence, AreInOneClass}
use Rattle.term_congruence.proofs.ShapeLemmas.{same_shape, shape_itself, shape_is}
use Rattle.term_congruence.proofs.Labels.{same_function, same_arguments, no_leaf, one_tree}

-- ---- a label stands for one free term

module _ (shapes : List ShapeTree) where
  -- what a label of an application stands for
  pub applied_at : (x : FreeTree) (n f : ℕ) (ls : List ℕ) → IsLabelOf shapes x n → slice_get shapes n ≡ Some (applied_shape f ls) →
      (xs : FreeTrees) × (x ≡ applied f xs) × AreLabelsOf shapes xs ls
  applied_at (leaf_at s t) n f ls is at = absurd (no_leaf s t f ls (same_Some (leaf_shape s t) (applied_shape f ls) (sym is ∙ at)))
  applied_at (applied g xs) n f ls is at =
      let same = same_Some (applied_shape g is.0) (applied_shape f ls) (sym is.1 ∙ at) in
      (xs, ap (λ h. applied h xs) (same_function g f is.0 ls same), subst (AreLabelsOf shapes xs) (same_arguments g f is.0 ls same) is.2)

-- ---- what is in one class is so in every congruence

module _ (shapes : List ShapeTree) (stand : AllStand shapes) (different : AreDifferent shapes) (pairs : List PairTree)
    (R : FreeTree → FreeTree → Bool) (congruence : IsCongruence pairs R) where
  -- what a label stands for
  pub tree_where : (i : ℕ) (o : Option ShapeTree) → slice_get shapes i ≡ o → FreeTree
  tree_where i None is = leaf_at 0 0
  tree_where i (Some s) is = (stand i s is).0

  abbrev pub tree : ℕ → FreeTree
  tree i = tree_where i (slice_get shapes i) refl

  is_tree : (i : ℕ) (s : ShapeTree) → slice_get shapes i ≡ Some s → IsLabelOf shapes (tree i) i
  unfolding tree_where
  is_tree i s at = by (slice_get shapes i) refl at
    where
      by : (o : Option ShapeTree) (is : slice_get shapes i ≡ o) → o ≡ Some s → IsLabelOf shapes (tree_where i o is) i
      by None is e = absurd (none-some s e)
      by (Some r) is e = (stand i r is).1

  abbrev pub related : ℕ → ℕ → Bool
  related i j = R (tree i) (tree j)

  tree_is : (x : FreeTree) (n : ℕ) → IsLabelOf shapes x n → x ≡ tree n
  tree_is (leaf_at s t) n is = one_tree shapes (leaf_at s t) (tree n) n is (is_tree n (leaf_shape s t) is)
  tree_is (applied f xs) n is = one_tree shapes (applied f xs) (tree n) n is (is_tree n (applied_shape f is.0) is.1)

  all_related : (ls ms : List ℕ) (xs ys : FreeTrees) → AreLabelsOf shapes xs ls → AreLabelsOf shapes ys ms → AllOne related ls ms →
      AreAllIn R xs ys
  all_related [] [] no_free no_free are_x are_y all = tt
  all_related [] [] no_free (more_free y ys) are_x are_y all = absurd are_y
  all_related [] [] (more_free x xs) ys are_x are_y all = absurd are_x
  all_related [] (m ∷ ms) xs ys are_x are_y all = absurd all
  all_related (l ∷ ls) [] xs ys are_x are_y all = absurd all
  all_related (l ∷ ls) (m ∷ ms) no_free ys are_x are_y all = absurd are_x
  all_related (l ∷ ls) (m ∷ ms) (more_free x xs) no_free are_x are_y all = absurd are_y
  all_related (l ∷ ls) (m ∷ ms) (more_free x xs) (more_free y ys) are_x are_y all =
      let left : x ≡ tree l = tree_is x l are_x.0 in
      let right : y ≡ tree m = tree_is y m are_y.0 in
      ((λ i. R (left i) (right i)) ∙ all.0, all_related ls ms xs ys are_x.1 are_y.1 all.1)

  pub related_allowed : IsAllowed shapes related
  related_allowed = record {
    equivalence = record {
      itself = λ i. congruence.itself (tree i);
      turned = λ i j e. congruence.turned (tree i) (tree j) e;
      through = λ i j k e f. congruence.through (tree i) (tree j) (tree k) e f;
    };
    alike = λ i j x at_i at_j. subst (λ k. related i k ≡ true) (different i j x at_i at_j) (congruence.itself (tree i));
    parts = λ i j f ls ms at_i at_j all.
        let left = applied_at shapes (tree i) i f ls (is_tree i (applied_shape f ls) at_i) at_i in
        let right = applied_at shapes (tree j) j f ms (is_tree j (applied_shape f ms) at_j) at_j in
        (λ k. R (left.1 k) (right.1 k))
        ∙ congruence.applications f left.0 right.0 (all_related ls ms left.0 right.0 left.2 right.2 all);
  }

  pub by_labels : (x y : FreeTree) (m n : ℕ) → IsLabelOf shapes x m → IsLabelOf shapes y n → related m n ≡ true → R x y ≡ true
  by_labels x y m n is_x is_y e =
      let left : x ≡ tree m = tree_is x m is_x in
      let right : y ≡ tree n = tree_is y n is_y in
      (λ i. R (left i) (right i)) ∙ e

-- ---- what is in one class in every congruence has labels in one class

-- the class of the first shape that is so by classes
abbrev pub class_by : List ShapeTree → List ℕ → List ℕ → ShapeTree → Option ℕ
class_by [] numbers classes key = None
class_by (s ∷ shapes) [] classes key = None
class_by (s ∷ shapes) (c ∷ numbers) classes key = cond (same_shape (by_classes classes s) key) (Some c)
    (class_by shapes numbers classes key)

module _ (shapes : List ShapeTree) (classes : List ℕ) where
  -- the class of a free term, where it has one
  abbrev mutual
    pub class_of : FreeTree → Option ℕ
    class_of (leaf_at s t) = class_by shapes classes classes (leaf_shape s t)
    class_of (applied f xs) = option_and_then (λ cs. class_by shapes classes classes (applied_shape f cs)) (classes_of xs)

    pub classes_of : FreeTrees → Option (List ℕ)
    classes_of no_free = Some []
    classes_of (more_free x xs) = option_and_then (λ c. option_map (λ cs. c ∷ cs) (classes_of xs)) (class_of x)

  -- two free terms of one class, or both of none
  abbrev pub same_class : Option ℕ → Option ℕ → Bool
  same_class None None = true
  same_class None (Some b) = false
  same_class (Some a) None = false
  same_class (Some a) (Some b) = a == b

  class_is : (a b : Option ℕ) → same_class a b ≡ true → a ≡ b
  class_is None None e = refl
  class_is None (Some b) e = absurd (false≢true e)
  class_is (Some a) None e = absurd (false≢true e)
  class_is (Some a) (Some b) e = ap Some (eqb-true a b e)

  class_itself : (a : Option ℕ) → same_class a a ≡ true
  class_itself None = refl
  class_itself (Some a) = eq-eqb a a refl

  same_for : (x y : FreeTree) → class_of x ≡ class_of y → same_class (class_of x) (class_of y) ≡ true
  same_for x y e = subst (λ o. same_class (class_of x) o ≡ true) e (class_itself (class_of x))

  all_same : (xs ys : FreeTrees) → AreAllIn (λ x y. same_class (class_of x) (class_of y)) xs ys → classes_of xs ≡ classes_of ys
  all_same no_free no_free are = refl
  all_same no_free (more_free y ys) are = absurd are
  all_same (more_free x xs) no_free are = absurd are
  all_same (more_free x xs) (more_free y ys) are =
      let first = class_is (class_of x) (class_of y) are.0 in
      let rest = all_same xs ys are.1 in
      λ i. option_and_then (λ c. option_map (λ cs. c ∷ cs) (rest i)) (first i)

  -- being of one class is a congruence
  pub classes_congruence : (pairs : List PairTree) → AllByRecursion (λ p. class_of p.left ≡ class_of p.right) pairs →
      IsCongruence pairs (λ x y. same_class (class_of x) (class_of y))
  classes_congruence pairs listed = record {
    itself = λ x. class_itself (class_of x);
    turned = λ x y e. same_for y x (sym (class_is (class_of x) (class_of y) e));
    through = λ x y z e f. same_for x z (class_is (class_of x) (class_of y) e ∙ class_is (class_of y) (class_of z) f);
    listed = each_listed pairs listed;
    applications = λ f xs ys are. same_for (applied f xs) (applied f ys)
        (ap (option_and_then (λ cs. class_by shapes classes classes (applied_shape f cs))) (all_same xs ys are));
  }
    where
      each_listed : (ps : List PairTree) → AllByRecursion (λ p. class_of p.left ≡ class_of p.right) ps →
          AllByRecursion (λ p. same_class (class_of p.left) (class_of p.right) ≡ true) ps
      each_listed [] are = tt
      each_listed (p ∷ ps) are = (same_for p.left p.right are.0, each_listed ps are.1)

  -- ---- the class of a free term that has a label is that of its label

  first_by : (key : ShapeTree) (c : ℕ) (xs : List ShapeTree) (ns : List ℕ) → length ns ≡ length xs →
      ((i : ℕ) (x : ShapeTree) → slice_get xs i ≡ Some x → by_classes classes x ≡ key → get_or ns i 0 ≡ c) →
      (n : ℕ) (x : ShapeTree) → slice_get xs n ≡ Some x → by_classes classes x ≡ key → class_by xs ns classes key ≡ Some c
  first_by key c [] ns long one n x at is = absurd (none-some x at)
  first_by key c (s ∷ xs) [] long one n x at is = cc
  first_by key c (s ∷ xs) (d ∷ ns) long one n x at is =
      by (same_shape (by_classes classes s) key) refl n at
      (λ k at_k. first_by key c xs ns (omega (arith, long)) (λ i y at_i is_y. one (suc i) y at_i is_y) k x at_k is)
    where
      by : (b : Bool) → same_shape (by_classes classes s) key ≡ b → (n : ℕ) → slice_get (s ∷ xs) n ≡ Some x →
          ((k : ℕ) → slice_get xs k ≡ Some x → class_by xs ns classes key ≡ Some c) →
          cond b (Some d) (class_by xs ns classes key) ≡ Some c
      by true same n at further = ap Some (one 0 s refl (shape_is (by_classes classes s) key same))
      by false same zero at further =
          absurd (false≢true (sym same ∙ ap (λ z. same_shape z key) (ap (by_classes classes) (same_Some s x at) ∙ is) ∙ shape_itself key))
      by false same (suc n) at further = further n at

  module _ (long : length classes ≡ length shapes) (closed : IsClosed shapes classes) where
    class_at : (n : ℕ) (x : ShapeTree) → slice_get shapes n ≡ Some x →
        class_by shapes classes classes (by_classes classes x) ≡ Some (get_or classes n 0)
    class_at n x at = first_by (by_classes classes x) (get_or classes n 0) shapes classes long
        (λ i y at_i is_y. closed i n y x at_i at is_y) n x at refl

    mutual
      pub class_labelled : (x : FreeTree) (n : ℕ) → IsLabelOf shapes x n → class_of x ≡ Some (get_or classes n 0)
      class_labelled (leaf_at s t) n is = class_at n (leaf_shape s t) is
      class_labelled (applied f xs) n is =
          ap (option_and_then (λ cs. class_by shapes classes classes (applied_shape f cs))) (classes_labelled xs is.0 is.2)
          ∙ class_at n (applied_shape f is.0) is.1

      pub classes_labelled : (xs : FreeTrees) (ns : List ℕ) → AreLabelsOf shapes xs ns →
          classes_of xs ≡ Some (map (λ l. get_or classes l 0) ns)
      classes_labelled no_free [] are = refl
      classes_labelled no_free (n ∷ ns) are = absurd are
      classes_labelled (more_free x xs) [] are = absurd are
      classes_labelled (more_free x xs) (n ∷ ns) are =
          let first = class_labelled x n are.0 in
          let rest = classes_labelled xs ns are.1 in
          λ i. option_and_then (λ c. option_map (λ cs. c ∷ cs) (rest i)) (first i)

-- ---- both ways

module _ (shapes : List ShapeTree) (stand : AllStand shapes) (different : AreDifferent shapes) (pairs : List PairTree)
    (labels : List LabelPairTree) (of : ArePairLabels shapes pairs labels) (classes : List ℕ)
    (are : AreSmallest shapes labels classes) where
  listed_classes : (ps : List PairTree) (qs : List LabelPairTree) → ArePairLabels shapes ps qs →
      AllByRecursion (λ q. get_or classes q.left 0 ≡ get_or classes q.right 0) qs →
      AllByRecursion (λ p. class_of shapes classes p.left ≡ class_of shapes classes p.right) ps
  listed_classes [] [] of_qs all = tt
  listed_classes [] (q ∷ qs) of_qs all = absurd of_qs
  listed_classes (p ∷ ps) [] of_qs all = absurd of_qs
  listed_classes (p ∷ ps) (q ∷ qs) of_qs all = (
    class_labelled shapes classes are.long are.closed p.left q.left of_qs.0.0 ∙ ap Some all.0
        ∙ sym (class_labelled shapes classes are.long are.closed p.right q.right of_qs.0.1),
    listed_classes ps qs of_qs.1 all.1,
  )

  listed_related : (R : FreeTree → FreeTree → Bool) (congruence : IsCongruence pairs R) (ps : List PairTree) (qs : List LabelPairTree) →
      ArePairLabels shapes ps qs → AllByRecursion (λ p. R p.left p.right ≡ true) ps →
      AllByRecursion (λ q. related shapes stand different pairs R congruence q.left q.right ≡ true) qs
  listed_related R congruence [] [] of_qs all = tt
  listed_related R congruence [] (q ∷ qs) of_qs all = absurd of_qs
  listed_related R congruence (p ∷ ps) [] of_qs all = absurd of_qs
  listed_related R congruence (p ∷ ps) (q ∷ qs) of_qs all = (
    (λ i. R (sym (tree_is shapes stand different pairs R congruence p.left q.left of_qs.0.0) i)
        (sym (tree_is shapes stand different pairs R congruence p.right q.right of_qs.0.1) i)) ∙ all.0,
    listed_related R congruence ps qs of_qs.1 all.1,
  )

  within : (x : FreeTree) (n : ℕ) → IsLabelOf shapes x n → n < length classes
  within (leaf_at s t) n is =
      let w : n < length shapes = slice_get_within shapes n (leaf_shape s t) is in omega (arith, w, are.long)
  within (applied f xs) n is =
      let w : n < length shapes = slice_get_within shapes n (applied_shape f is.0) is.1 in omega (arith, w, are.long)

  pub one_class_exactly : (x y : FreeTree) (m n : ℕ) → IsLabelOf shapes x m → IsLabelOf shapes y n →
      AreInOneClass pairs x y ↔ (get_or classes m 0 ≡ get_or classes n 0)
  one_class_exactly x y m n is_x is_y = (
    λ one. same_Some _ _ (sym (class_labelled shapes classes are.long are.closed x m is_x)
        ∙ class_is shapes classes _ _ (one _ (classes_congruence shapes classes pairs (listed_classes pairs labels of are.listed)))
        ∙ class_labelled shapes classes are.long are.closed y n is_y),
    λ same R congruence. by_labels shapes stand different pairs R congruence x y m n is_x is_y
        (are.below (related shapes stand different pairs R congruence) (related_allowed shapes stand different pairs R congruence)
        (listed_related R congruence pairs labels of congruence.listed) m n (within x m is_x) (within y n is_y) same),
  )
