use Rattle.std.proofs.Common.{◌≡◌, ◌∙◌, ◌<◌, ℕ, List, suc, length, map, sym, ap, subst, get_or}
use Rattle.std.specs.List.{AllByRecursion}
use Rattle.std.proofs.lemmas.Bool.{eqb-true}
use Rattle.tsl_terms.specs.TermTree.{term_tree}
use Rattle.tsl_terms.specs.WindowTree.{listed_tree, equated_tree}
use Rattle.term_congruence.specs.Classes.{IsClassTable}
use Rattle.term_congruence.specs.internal.ShapeView.{shape_trees}
use Rattle.term_congruence.proofs.PairsMade.{empty_stands, empty_different}
use Rattle.term_congruence.proofs.Tables.{rows_kept, rows_within, is_class_table, is_plain_table}
use Rattle.term_congruence.proofs.classes.classes_along.Goals as goal

pub classes_of_labels-requires-clause-standing : goal.classes_of_labels-requires-clause-standing
classes_of_labels-requires-clause-standing c =
    c.in_ok-labels.ensures.keeps.standing (empty_stands c.new-shapes.result.keys c.new-shapes.ensures.empty)

pub classes_of_labels-requires-clause-different : goal.classes_of_labels-requires-clause-different
classes_of_labels-requires-clause-different c =
    c.in_ok-labels.ensures.keeps.different (empty_different c.new-shapes.result.keys c.new-shapes.ensures.empty)

pub rows_by_classes-requires : goal.rows_by_classes-requires
rows_by_classes-requires c =
    let updates = map listed_tree c.args.updates.now in
    let terms = map term_tree c.args.terms.now in
    let shapes = shape_trees c.classes_of_labels.new.shapes.keys in
    let kept = rows_kept updates terms (shape_trees c.label_rows.new.shapes.keys) shapes c.in_ok-labels.labels (suc c.args.length)
    c.in_ok-classes.ensures.keeps c.in_ok-labels.ensures.rows in
    let within = rows_within updates terms shapes c.in_ok-labels.labels (suc c.args.length) kept in
    let long : length c.deref.result.now ≡ length shapes = ap length c.deref.ensures.value ∙ c.in_ok-classes.ensures.exact.long in
    subst (λ n. AllByRecursion (λ (row : List ℕ). AllByRecursion (λ (l : ℕ). l < n) row) c.as_slice.result.now) (sym long)
    (subst (λ (rs : List (List ℕ)). AllByRecursion (λ (row : List ℕ). AllByRecursion (λ (l : ℕ). l < length shapes) row) rs)
    (sym c.as_slice.ensures) within)

pub returns-then-is_empty : goal.returns-then-is_empty
returns-then-is_empty c =
    is_plain_table (map listed_tree c.args.updates.now) (map term_tree c.args.terms.now) (shape_trees c.label_rows.new.shapes.keys)
    c.in_ok-labels.labels c.args.length
    (c.in_ok-labels.ensures.keeps.different (empty_different c.new-shapes.result.keys c.new-shapes.ensures.empty))
    c.in_ok-labels.ensures.rows c.args.equalities.now (eqb-true (length c.args.equalities.now) 0
    (sym c.is_empty.ensures ∙ c.if-is_empty.true))

pub returns : goal.returns
returns c =
    let updates = map listed_tree c.args.updates.now in
    let terms = map term_tree c.args.terms.now in
    let equalities = map equated_tree c.args.equalities.now in
    let shapes = shape_trees c.classes_of_labels.new.shapes.keys in
    let kept = rows_kept updates terms (shape_trees c.label_rows.new.shapes.keys) shapes c.in_ok-labels.labels (suc c.args.length)
    c.in_ok-classes.ensures.keeps c.in_ok-labels.ensures.rows in
    let table = is_class_table updates terms shapes c.in_ok-labels.labels c.args.length kept equalities c.in_ok-classes.classes.items
    c.in_ok-classes.ensures.exact in
    subst (λ (rs : List (List ℕ)). IsClassTable terms updates equalities c.args.length rs)
    (sym (c.in_ok-rows.ensures ∙ (λ k. map (λ row. map (λ l. get_or (c.deref.ensures.value k) l 0) row) (c.as_slice.ensures k)))) table
