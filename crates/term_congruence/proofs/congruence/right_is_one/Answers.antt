use Rattle.std.proofs.Common.{◌∙◌, List, [], ◌∷◌, map, subst, arith}
use Rattle.std.proofs.lemmas.List.{get_or_default}
use Rattle.tsl_terms.specs.declared.window.Listed.{Listed}
use Rattle.tsl_terms.specs.declared.window.Equated.{Equated}
use Rattle.tsl_terms.specs.WindowTree.{listed_tree, equated_tree, window_tree}
use Rattle.tsl_terms.specs.Unfolding.{term_listed}
use Rattle.tsl_terms.specs.OneClass.{pair_of}
use Rattle.term_congruence.specs.internal.Shapes.{all_unfolded_by}
use Rattle.term_congruence.specs.internal.ShapeView.{shape_trees}
use Rattle.term_congruence.specs.internal.PairView.{pair_tree}
use Rattle.term_congruence.specs.internal.PairLabels.{ArePairLabels}
use Rattle.term_congruence.specs.internal.Sides.{AreExactClasses, pairs_by}
use Rattle.term_congruence.proofs.SameLabels.{pair_below, right_exactly}
use Rattle.term_congruence.proofs.congruence.right_is_one.Goals as goal

pub index-requires : goal.index-requires
index-requires c =
    let below = pair_below (shape_trees c.pair_of_labels.new.shapes.keys) (shape_trees c.classes_of_labels.new.shapes.keys) _
    c.in_ok-classes.classes.items c.in_ok-classes.ensures.keeps c.in_ok-classes.ensures.exact _ (pair_tree c.in_ok-pair.pair)
    c.in_ok-pair.ensures.labels in
    omega (arith, below.0, c.in_ok-classes.classes.ok.0)

pub index-requires-2 : goal.index-requires-2
index-requires-2 c =
    let below = pair_below (shape_trees c.pair_of_labels.new.shapes.keys) (shape_trees c.classes_of_labels.new.shapes.keys) _
    c.in_ok-classes.classes.items c.in_ok-classes.ensures.keeps c.in_ok-classes.ensures.exact _ (pair_tree c.in_ok-pair.pair)
    c.in_ok-pair.ensures.labels in
    omega (arith, below.1, c.in_ok-classes.classes.ok.0)

pub returns : goal.returns
returns c =
    let w = window_tree c.args.window.now in
    let classes = c.in_ok-classes.classes.items in
    let pair = pair_tree c.in_ok-pair.pair in
    let old = shape_trees c.pair_of_labels.new.shapes.keys in
    let new = shape_trees c.classes_of_labels.new.shapes.keys in
    let below = pair_below old new _ classes c.in_ok-classes.ensures.keeps c.in_ok-classes.ensures.exact _ pair c.in_ok-pair.ensures.labels in
    let exact = subst (λ (es : List Equated).
    AreExactClasses new (pairs_by (term_listed (map listed_tree c.args.window.now.updates)) (map equated_tree es)) classes)
    c.as_slice-equalities.ensures
    (subst (λ (us : List Listed).
    AreExactClasses new (pairs_by (term_listed (map listed_tree us)) (map equated_tree c.as_slice-equalities.result.now)) classes)
    c.as_slice-updates.ensures c.in_ok-classes.ensures.exact) in
    let labels = subst (λ (us : List Listed).
    ArePairLabels old (pair_of (all_unfolded_by (map listed_tree us) w.length w.right.arguments)) (pair ∷ []))
    c.as_slice-updates.ensures c.in_ok-pair.ensures.labels in
    right_exactly w new classes exact c.args.equality (c.is_equality.ensures.0 c.if-not-is_equality.false) old
    c.in_ok-classes.ensures.keeps pair labels c.index.result.now c.index-2.result.now
    (c.index.ensures ∙ get_or_default classes pair.left c.index.result.now 0 below.0)
    (c.index-2.ensures ∙ get_or_default classes pair.right c.index-2.result.now 0 below.1)
