use Rattle.std.proofs.Common.{◌≡◌, length, map, arith}
use Rattle.tsl_terms.specs.TermTree.{term_trees}
use Rattle.tsl_terms.specs.WindowTree.{listed_tree}
use Rattle.tsl_terms.specs.Unfolding.{signal_unfolded, term_listed}
use Rattle.term_congruence.specs.internal.ShapeView.{shape_trees}
use Rattle.term_congruence.proofs.PairsMade.{two_labels, two_read}
use Rattle.term_congruence.proofs.classes.pair_of_labels.Goals as goal

pub index-requires : goal.index-requires
index-requires c =
    let two : length c.in_ok-labels.labels.items ≡ 2 = two_labels (shape_trees c.labels_at.new.shapes.keys)
    (signal_unfolded (term_listed (map listed_tree c.args.updates.now)) c.args.step)
    (term_trees c.args.arguments.now) c.in_ok-labels.labels.items c.requires c.in_ok-labels.ensures.labels in
    omega (arith, two, c.in_ok-labels.labels.ok.0)

pub index-requires-2 : goal.index-requires-2
index-requires-2 c =
    let two : length c.in_ok-labels.labels.items ≡ 2 = two_labels (shape_trees c.labels_at.new.shapes.keys)
    (signal_unfolded (term_listed (map listed_tree c.args.updates.now)) c.args.step)
    (term_trees c.args.arguments.now) c.in_ok-labels.labels.items c.requires c.in_ok-labels.ensures.labels in
    omega (arith, two, c.in_ok-labels.labels.ok.0)

pub returns-clause-labels : goal.returns-clause-labels
returns-clause-labels c =
    two_read (shape_trees c.labels_at.new.shapes.keys)
    (signal_unfolded (term_listed (map listed_tree c.args.updates.now)) c.args.step)
    (term_trees c.args.arguments.now) c.in_ok-labels.labels.items c.index.result.now c.index-2.result.now c.requires
    c.in_ok-labels.ensures.labels c.index.ensures c.index-2.ensures
