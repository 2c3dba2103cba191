use Rattle.term_congruence.specs.internal.Closing.{AreKeysFound}
use Rattle.term_congruence.specs.internal.ShapeView.{shape_trees}
use Rattle.term_congruence.proofs.closing.classes_apart.Given as goal

abbrev pub invariant-loop-label : goal.invariant-loop-label
invariant-loop-label l = AreKeysFound (shape_trees l.shapes) l.classes l.label (shape_trees l.seen.keys) l.found.items
