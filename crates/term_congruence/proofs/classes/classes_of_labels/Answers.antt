use Rattle.std.proofs.Common.{List, length, map, sym, subst}
use Rattle.std.specs.List.{AllByRecursion}
use Rattle.term_congruence.specs.declared.shapes.Shape.{Shape}
use Rattle.term_congruence.specs.declared.closing.LabelPair.{LabelPair}
use Rattle.term_congruence.specs.internal.ShapeView.{shape_trees}
use Rattle.term_congruence.specs.internal.Closing.{HasPartsBelow, IsPairBelow, AreSmallest}
use Rattle.term_congruence.specs.internal.PairView.{pair_tree}
use Rattle.term_congruence.proofs.StandingLemmas.{parts_below}
use Rattle.term_congruence.proofs.PairsMade.{pairs_within}
use Rattle.term_congruence.proofs.TreeLemmas.{one_class_exactly}
use Rattle.term_congruence.proofs.classes.classes_of_labels.Goals as goal

pub classes_of-requires-clause-parts : goal.classes_of-requires-clause-parts
classes_of-requires-clause-parts c =
    subst (λ (ks : List Shape). AllByRecursion (HasPartsBelow (length (shape_trees ks))) (shape_trees ks)) (sym c.as_slice.ensures.keys)
    (parts_below (shape_trees c.pairs_of_labels.new.shapes.keys) (c.in_ok-pairs.ensures.keeps.standing c.requires.standing))

pub classes_of-requires-clause-pairs : goal.classes_of-requires-clause-pairs
classes_of-requires-clause-pairs c =
    subst (λ (ks : List Shape). AllByRecursion (IsPairBelow (length (shape_trees ks))) (map pair_tree c.deref.result.now))
    (sym c.as_slice.ensures.keys)
    (subst (λ (ps : List LabelPair). AllByRecursion (IsPairBelow (length (shape_trees c.pairs_of_labels.new.shapes.keys)))
    (map pair_tree ps))
    (sym c.deref.ensures.value)
    (pairs_within (shape_trees c.pairs_of_labels.new.shapes.keys) _ (map pair_tree c.in_ok-pairs.pairs.items) c.in_ok-pairs.ensures.labels))

pub returns-clause-exact : goal.returns-clause-exact
returns-clause-exact c =
    let shapes = shape_trees c.pairs_of_labels.new.shapes.keys in
    let pairs = map pair_tree c.in_ok-pairs.pairs.items in
    let classes = c.in_ok-classes_of.field-0.items in
    let smallest = subst (λ (ks : List Shape). AreSmallest (shape_trees ks) pairs classes) c.as_slice.ensures.keys
    (subst (λ (ps : List LabelPair). AreSmallest (shape_trees c.as_slice.result.now) (map pair_tree ps) classes)
    c.deref.ensures.value c.in_ok-classes_of.ensures) in
    record {
      long = smallest.long;
      exact = one_class_exactly shapes (c.in_ok-pairs.ensures.keeps.standing c.requires.standing)
          (c.in_ok-pairs.ensures.keeps.different c.requires.different) _ pairs c.in_ok-pairs.ensures.labels classes smallest;
    }
