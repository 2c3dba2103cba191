use Rattle.std.proofs.Common.{length, map}
use Rattle.tsl_terms.specs.TermTree.{probe_tree}
use Rattle.letter_space.specs.SpaceView.{space_tree}
use Rattle.branch_finder.specs.internal.Paths.{updates_along, equalities_along}
use Rattle.branch_finder.proofs.LoopFacts.{false_is_not_true}
use Rattle.branch_finder.proofs.ProbeLabels.{updates_of_cells, congruent_by_labels}
use Rattle.branch_finder.proofs.Seen.{each_is_equality}
use Rattle.branch_finder.proofs.looking.is_congruent.Goals as goal

pub returns-then-have_one_predicate : goal.returns-then-have_one_predicate
returns-then-have_one_predicate c left right is_left is_right =
    let look = c.args.look.now in
    let search = look.walk.search in
    let space = space_tree search.space.now in
    let cells = search.cells.now in
    let path = look.walk.path.now in
    let prints = look.walk.prints.now in
    let pair = c.args.pair in
    let proper = each_is_equality space search.equality search.mask prints c.requires.look.walk.search.mask c.requires.look.walk.prints in
    let by = congruent_by_labels cells (updates_along space.controlled cells 0 path) (equalities_along space.predicates 0 prints)
    (updates_of_cells space cells path) (map probe_tree search.space.now.predicates) (length path) look.rows.now c.requires.look.labelled
    search.equality proper pair.left pair.left_at pair.right c.requires.pair.left_at c.labels.result.now
    c.labels-then-have_one_predicate.result.now left right
    is_left is_right c.labels.ensures c.labels-then-have_one_predicate.ensures in (
      λ same. by.0 ((c.have_one_predicate.ensures left right is_left is_right).0 c.if-have_one_predicate.true, c.are_same.ensures.0 same),
      λ is. c.are_same.ensures.1 (by.1 is).1,
    )

pub returns-else-have_one_predicate : goal.returns-else-have_one_predicate
returns-else-have_one_predicate c left right is_left is_right = (
  λ never. absurd (false_is_not_true c.have_one_predicate.result c.if-have_one_predicate.false never),
  λ is.
      absurd (false_is_not_true c.have_one_predicate.result c.if-have_one_predicate.false
      ((c.have_one_predicate.ensures left right is_left is_right).1 is.sides.0)),
)
