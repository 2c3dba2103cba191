use Rattle.std.proofs.Common.{map}
use Rattle.tsl_terms.specs.TermTree.{term_tree}
use Rattle.tsl_terms.specs.WindowTree.{listed_tree}
use Rattle.term_congruence.specs.internal.Shapes.{KeepsShapes, AreReady}
use Rattle.term_congruence.specs.internal.ShapeView.{shape_trees}
use Rattle.term_congruence.specs.internal.Rows.{AreStepRows}
use Rattle.term_congruence.proofs.classes.label_rows.Given as goal

abbrev pub invariant-loop-step : goal.invariant-loop-step
invariant-loop-step l = record {
  keeps : KeepsShapes (shape_trees l.fn.shapes.keys) (shape_trees l.shapes.keys);
  ready : AreReady (shape_trees l.shapes.keys) (map listed_tree l.updates) l.step l.before.items;
  rows : AreStepRows (map listed_tree l.updates) (map term_tree l.terms) (shape_trees l.shapes.keys) l.rows l.step;
}
