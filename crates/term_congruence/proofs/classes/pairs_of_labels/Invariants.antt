use Rattle.std.proofs.Common.{map, take}
use Rattle.tsl_terms.specs.WindowTree.{listed_tree, equated_tree}
use Rattle.tsl_terms.specs.Unfolding.{term_listed}
use Rattle.term_congruence.specs.internal.Shapes.{KeepsShapes}
use Rattle.term_congruence.specs.internal.ShapeView.{shape_trees}
use Rattle.term_congruence.specs.internal.PairView.{pair_tree}
use Rattle.term_congruence.specs.internal.PairLabels.{ArePairLabels}
use Rattle.term_congruence.specs.internal.Sides.{pairs_by}
use Rattle.term_congruence.proofs.classes.pairs_of_labels.Given as goal

abbrev pub invariant-loop-equality : goal.invariant-loop-equality
invariant-loop-equality l = record {
  keeps : KeepsShapes (shape_trees l.fn.shapes.keys) (shape_trees l.shapes.keys);
  labels : ArePairLabels (shape_trees l.shapes.keys)
      (pairs_by (term_listed (map listed_tree l.updates)) (map equated_tree (take l.equality-index l.equalities)))
      (map pair_tree l.pairs.items);
}
