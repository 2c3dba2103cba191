use Rattle.std.proofs.Common.{◌∙◌, length, map, sym, subst, arith}
use Rattle.std.proofs.lemmas.Bool.{false≢true}
use Rattle.base_library.proofs.Places.{slice_get_some, slice_get_one}
use Rattle.tsl_terms.specs.TermTree.{probe_tree}
use Rattle.tsl_terms.specs.Congruence.{IsEquality}
use Rattle.letter_space.specs.SpaceView.{space_tree}
use Rattle.branch_finder.specs.internal.Paths.{updates_along, equalities_along}
use Rattle.branch_finder.proofs.ArgumentLemmas.{labels_counted}
use Rattle.branch_finder.proofs.ProbeLabels.{updates_of_cells, alone_by_labels}
use Rattle.branch_finder.proofs.Seen.{each_is_equality}
use Rattle.branch_finder.proofs.looking.is_one.Goals as goal

pub returns-then-not-is_set : goal.returns-then-not-is_set
returns-then-not-is_set c probe is_probe = (
  λ never. absurd (false≢true never),
  λ is.
      absurd (false≢true (sym c.if-not-is_set.true ∙ c.is_set.ensures
      ∙ c.requires.look.walk.search.mask.all c.args.right probe is_probe is.sides.0)),
)

pub are_both_same-requires : goal.are_both_same-requires
are_both_same-requires c =
    let look = c.args.look.now in
    let probes = map probe_tree look.walk.search.space.now.predicates in
    let labelled = c.requires.look.labelled in
    let there = c.requires.look.walk.search.mask.each c.args.right (sym c.is_set.ensures ∙ c.if-not-is_set.false) in
    let row = slice_get_some look.rows.now (length look.walk.path.now) (omega (arith, labelled.one_row_each)) in
    labels_counted probes look.rows.now (length look.walk.path.now) c.args.right c.labels.result.now row.0 there.0 c.labels.ensures there.1
    row.1
    (labelled.one_label_each (length look.walk.path.now) row.0 row.1) ∙ there.2.two

pub returns : goal.returns
returns c probe is_probe =
    let look = c.args.look.now in
    let search = look.walk.search in
    let space = space_tree search.space.now in
    let cells = search.cells.now in
    let path = look.walk.path.now in
    let prints = look.walk.prints.now in
    let proper = each_is_equality space search.equality search.mask prints c.requires.look.walk.search.mask c.requires.look.walk.prints in
    let there = c.requires.look.walk.search.mask.each c.args.right (sym c.is_set.ensures ∙ c.if-not-is_set.false) in
    let is_equal = subst (IsEquality search.equality) (slice_get_one space.predicates c.args.right there.0 probe there.1 is_probe)
    there.2 in
    let by = alone_by_labels cells (updates_along space.controlled cells 0 path) (equalities_along space.predicates 0 prints)
    (updates_of_cells space cells path) (map probe_tree search.space.now.predicates) (length path) look.rows.now c.requires.look.labelled
    search.equality proper c.args.right c.labels.result.now probe is_probe is_equal c.labels.ensures in (
      λ same. by.0 (c.are_both_same.ensures.0 same),
      λ is. c.are_both_same.ensures.1 (by.1 is),
    )
