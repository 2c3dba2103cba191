use Rattle.std.proofs.Common.{map}
use Rattle.tsl_terms.specs.WindowTree.{listed_tree}
use Rattle.tsl_terms.specs.WindowTree.{EquatedTree}
use Rattle.tsl_terms.specs.OneClass.{pair_of}
use Rattle.term_congruence.specs.internal.Shapes.{all_unfolded_by}
use Rattle.term_congruence.specs.internal.ShapeView.{shape_trees}
use Rattle.term_congruence.proofs.ShapeLemmas.{keeps_on}
use Rattle.term_congruence.proofs.PairsMade.{item_two, pairs_more}
use Rattle.term_congruence.proofs.classes.pairs_of_labels.Goals as goal

pub pair_of_labels-requires : goal.pair_of_labels-requires
pair_of_labels-requires c =
    item_two c.args.equalities.now c.loop-equality.equality-index c.equality-item.result c.loop-equality-test.true c.equality-item.is c.requires

pub loop-equality-preserved : goal.loop-equality-preserved
loop-equality-preserved c = record {
  keeps = keeps_on _ _ _ c.loop-equality.invariant.keeps c.in_ok-pair_of_labels.ensures.keeps;
  labels = pairs_more (λ (e : EquatedTree). pair_of (all_unfolded_by (map listed_tree c.args.updates.now) e.offset e.probe.arguments))
      (shape_trees c.loop-equality.shapes.keys) (shape_trees c.pair_of_labels.new.shapes.keys) c.args.equalities.now
      c.loop-equality.equality-index c.equality-item.result c.loop-equality.pairs.items c.push.new.self.items c.in_ok-pair_of_labels.field-0
      c.loop-equality-test.true c.equality-item.is c.in_ok-pair_of_labels.ensures.keeps c.loop-equality.invariant.labels
      c.in_ok-pair_of_labels.ensures.labels c.in_ok-push.ensures.items;
}
