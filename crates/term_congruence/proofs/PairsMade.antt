-- Labels of the two arguments of equalities.
use Rattle.std.proofs.Common.{◌≡◌, ◌∙◌, ℕ, ◌+◌, ◌<◌, List, [], ◌∷◌, ◌++◌, length, map, take, get_or, flat_map, Some, slice_get, refl, sym, ap, subst, arith}
use Rattle.std.specs.Prelude.{option_map}
use Rattle.std.proofs.Common.{append-nil, append_assoc}
use Rattle.std.proofs.lemmas.Option.{slice_get-map, slice_get_read, none-some}
use Rattle.std.proofs.lemmas.List.{map_push}
use Rattle.base_library.proofs.Each.{each_at}
use Rattle.base_library.proofs.Lists.{made_more}
use Rattle.tsl_terms.specs.declared.window.Equated.{Equated}
use Rattle.term_congruence.specs.declared.closing.LabelPair.{LabelPair}
use Rattle.term_congruence.specs.declared.shapes.Shape.{Shape}
use Rattle.term_congruence.specs.internal.ShapeView.{shape_trees}
use Rattle.term_congruence.specs.internal.PairView.{pair_tree}
use Rattle.std.specs.List.{AllByRecursion}
use Rattle.tsl_terms.specs.TermTree.{term_trees, TermTrees, no_terms, more_terms, count_of_terms}
use Rattle.tsl_terms.specs.FreeTree.{FreeTree}
use Rattle.tsl_terms.specs.Unfolding.{with_leaves, all_with_leaves}
use Rattle.tsl_terms.specs.OneClass.{PairTree}
use Rattle.tsl_terms.specs.WindowTree.{EquatedTree, equated_tree}
use Rattle.tsl_terms.specs.OneClass.{pair_of}
use Rattle.term_congruence.specs.internal.Shapes.{ShapeTree, IsLabelOf, AreLabelsOf, AreDifferent, AllStand, KeepsShapes}
use Rattle.term_congruence.specs.internal.Closing.{LabelPairTree, IsPairBelow}
use Rattle.term_congruence.specs.internal.PairLabels.{ArePairLabels}
use Rattle.term_congruence.proofs.Labels.{label_kept}
use Rattle.term_congruence.proofs.StandingLemmas.{label_within}

-- two terms have two labels, and these are those of their pair
pub two_labels : (shapes : List ShapeTree) (at : ℕ → FreeTree) (ts : TermTrees) (ns : List ℕ) → count_of_terms ts ≡ 2 →
    AreLabelsOf shapes (all_with_leaves at ts) ns → length ns ≡ 2
two_labels shapes at no_terms ns two are = absurd (omega (arith, two))
two_labels shapes at (more_terms t no_terms) ns two are = absurd (omega (arith, two))
two_labels shapes at (more_terms t (more_terms s (more_terms r rs))) ns two are = absurd (omega (arith, two))
two_labels shapes at (more_terms t (more_terms s no_terms)) [] two are = absurd are
two_labels shapes at (more_terms t (more_terms s no_terms)) (m ∷ []) two are = absurd are.1
two_labels shapes at (more_terms t (more_terms s no_terms)) (m ∷ n ∷ []) two are = refl
two_labels shapes at (more_terms t (more_terms s no_terms)) (m ∷ n ∷ o ∷ os) two are = absurd are.1.1

pub two_read : (shapes : List ShapeTree) (at : ℕ → FreeTree) (ts : TermTrees) (ns : List ℕ) (a b : ℕ) → count_of_terms ts ≡ 2 →
    AreLabelsOf shapes (all_with_leaves at ts) ns → a ≡ get_or ns 0 a → b ≡ get_or ns 1 b →
    ArePairLabels shapes (pair_of (all_with_leaves at ts)) (record { left = a; right = b } ∷ [])
two_read shapes at no_terms ns a b two are is_a is_b = absurd (omega (arith, two))
two_read shapes at (more_terms t no_terms) ns a b two are is_a is_b = absurd (omega (arith, two))
two_read shapes at (more_terms t (more_terms s (more_terms r rs))) ns a b two are is_a is_b = absurd (omega (arith, two))
two_read shapes at (more_terms t (more_terms s no_terms)) [] a b two are is_a is_b = absurd are
two_read shapes at (more_terms t (more_terms s no_terms)) (m ∷ []) a b two are is_a is_b = absurd are.1
two_read shapes at (more_terms t (more_terms s no_terms)) (m ∷ n ∷ []) a b two are is_a is_b =
    ((subst (IsLabelOf shapes (with_leaves at t)) (sym is_a) are.0, subst (IsLabelOf shapes (with_leaves at s)) (sym is_b) are.1.0), tt)
two_read shapes at (more_terms t (more_terms s no_terms)) (m ∷ n ∷ o ∷ os) a b two are is_a is_b = absurd are.1.1

pub pairs_kept : (old new : List ShapeTree) → KeepsShapes old new → (ps : List PairTree) (qs : List LabelPairTree) →
    ArePairLabels old ps qs →
    ArePairLabels new ps qs
pairs_kept old new keeps [] [] are = tt
pairs_kept old new keeps [] (q ∷ qs) are = absurd are
pairs_kept old new keeps (p ∷ ps) [] are = absurd are
pairs_kept old new keeps (p ∷ ps) (q ∷ qs) are = (
  (label_kept old new keeps p.left q.left are.0.0, label_kept old new keeps p.right q.right are.0.1),
  pairs_kept old new keeps ps qs are.1,
)

pub pairs_joined : (shapes : List ShapeTree) (ps : List PairTree) (qs : List LabelPairTree) (more : List PairTree)
    (further : List LabelPairTree) →
    ArePairLabels shapes ps qs → ArePairLabels shapes more further → ArePairLabels shapes (ps ++ more) (qs ++ further)
pairs_joined shapes [] [] more further are rest = rest
pairs_joined shapes [] (q ∷ qs) more further are rest = absurd are
pairs_joined shapes (p ∷ ps) [] more further are rest = absurd are
pairs_joined shapes (p ∷ ps) (q ∷ qs) more further are rest = (are.0, pairs_joined shapes ps qs more further are.1 rest)

pub pairs_within : (shapes : List ShapeTree) (ps : List PairTree) (qs : List LabelPairTree) → ArePairLabels shapes ps qs →
    AllByRecursion (IsPairBelow (length shapes)) qs
pairs_within shapes [] [] are = tt
pairs_within shapes [] (q ∷ qs) are = absurd are
pairs_within shapes (p ∷ ps) [] are = absurd are
pairs_within shapes (p ∷ ps) (q ∷ qs) are =
    ((label_within shapes p.left q.left are.0.0, label_within shapes p.right q.right are.0.1), pairs_within shapes ps qs are.1)

flat_push : (f : EquatedTree → List PairTree) (xs : List EquatedTree) (y : EquatedTree) → flat_map f (xs ++ y ∷ []) ≡ flat_map f xs ++ f y
flat_push f [] y = append-nil (f y)
flat_push f (x ∷ xs) y = ap (λ (ps : List PairTree). f x ++ ps) (flat_push f xs y) ∙ sym (append_assoc (f x) (flat_map f xs) (f y))

pub item_at : (es : List Equated) (i : ℕ) (e : Equated) → i < length es → e ≡ get_or es i e → slice_get (map equated_tree es) i ≡ Some
    (equated_tree e)
item_at es i e within is = slice_get-map equated_tree es i ∙ ap (option_map equated_tree) (slice_get_read es (length es) i e refl within is)

pub item_two : (es : List Equated) (i : ℕ) (e : Equated) → i < length es → e ≡ get_or es i e →
    AllByRecursion (λ (d : EquatedTree). count_of_terms d.probe.arguments ≡ 2) (map equated_tree es) →
    count_of_terms (term_trees e.probe.arguments) ≡ 2
item_two es i e within is all =
    each_at (λ (d : EquatedTree). count_of_terms d.probe.arguments ≡ 2) (map equated_tree es) i (equated_tree e) all
    (item_at es i e within is)

pub pairs_more : (f : EquatedTree → List PairTree) (old new : List ShapeTree) (es : List Equated) (i : ℕ) (e : Equated)
    (qs longer : List LabelPair)
    (q : LabelPair) → i < length es → e ≡ get_or es i e → KeepsShapes old new →
    ArePairLabels old (flat_map f (map equated_tree (take i es))) (map pair_tree qs) → ArePairLabels new (f (equated_tree e))
    (pair_tree q ∷ []) →
    longer ≡ qs ++ q ∷ [] → ArePairLabels new (flat_map f (map equated_tree (take (i + 1) es))) (map pair_tree longer)
pairs_more f old new es i e qs longer q within is keeps so_far here pushed =
    let next : flat_map f (map equated_tree (take (i + 1) es)) ≡ flat_map f (map equated_tree (take i es)) ++ f (equated_tree e) =
    ap (flat_map f) (sym (made_more equated_tree (map equated_tree (take i es)) (map equated_tree (take i es) ++ equated_tree e ∷ [])
    (equated_tree e) es i e within is refl refl refl)) ∙ flat_push f (map equated_tree (take i es)) (equated_tree e) in
    let made : map pair_tree longer ≡ map pair_tree qs ++ pair_tree q ∷ [] = ap (map pair_tree) pushed ∙ map_push pair_tree qs q in
    subst (λ ps. ArePairLabels new ps (map pair_tree longer)) (sym next)
    (subst (λ ms. ArePairLabels new (flat_map f (map equated_tree (take i es)) ++ f (equated_tree e)) ms) (sym made)
    (pairs_joined new (flat_map f (map equated_tree (take i es))) (map pair_tree qs) (f (equated_tree e)) (pair_tree q ∷ [])
    (pairs_kept old new keeps (flat_map f (map equated_tree (take i es))) (map pair_tree qs) so_far) here))

-- at first there is no shape
pub empty_stands : (keys : List Shape) → keys ≡ [] → AllStand (shape_trees keys)
empty_stands keys is = subst AllStand (sym (ap shape_trees is)) (λ n s at. absurd (none-some s at))

pub empty_different : (keys : List Shape) → keys ≡ [] → AreDifferent (shape_trees keys)
empty_different keys is = subst AreDifferent (sym (ap shape_trees is)) (λ i j x at_i at_j. absurd (none-some x at_i))

pub row_within : (n : ℕ) (rows : List (List ℕ)) (i : ℕ) (row : List ℕ) → i < length rows → row ≡ get_or rows i row →
    AllByRecursion (λ r. AllByRecursion (λ l. l < n) r) rows → AllByRecursion (λ l. l < n) row
row_within n rows i row within is all =
    each_at (λ r. AllByRecursion (λ l. l < n) r) rows i row all (slice_get_read rows (length rows) i row refl within is)
