use Rattle.std.proofs.Common.{◌≡◌, ◌∙◌, ◌↔◌, ◌<◌, ℕ, List, length, map, get_or, IsTrue, sym, subst}
use Rattle.std.specs.List.{AllByRecursion}
use Rattle.std.proofs.lemmas.Result.{IfOk-weaker}
use Rattle.tsl_terms.specs.declared.window.Listed.{Listed}
use Rattle.tsl_terms.specs.declared.window.Equated.{Equated}
use Rattle.tsl_terms.specs.TermTree.{probe_tree}
use Rattle.tsl_terms.specs.WindowTree.{listed_tree, equated_tree, window_tree}
use Rattle.tsl_terms.specs.Unfolding.{term_listed}
use Rattle.term_congruence.specs.internal.Shapes.{AreLabelsOf, all_unfolded_by}
use Rattle.term_congruence.specs.internal.ShapeView.{shape_trees}
use Rattle.term_congruence.specs.internal.Sides.{AreExactClasses, pairs_by, LeftIsAsRight}
use Rattle.term_congruence.proofs.ShapeLemmas.{keeps_on}
use Rattle.term_congruence.proofs.SameLabels.{labels_below, left_exactly}
use Rattle.term_congruence.proofs.congruence.sides_are_one.Goals as goal

pub are_in_one-requires-clause-left : goal.are_in_one-requires-clause-left
are_in_one-requires-clause-left c =
    let old = shape_trees c.labels_at.new.shapes.keys in
    let new = shape_trees c.classes_of_labels.new.shapes.keys in
    let keeps = keeps_on old (shape_trees c.labels_at-2.new.shapes.keys) new c.in_ok-second.ensures.keeps c.in_ok-classes.ensures.keeps in
    let below = labels_below old new _ c.in_ok-classes.classes.items keeps c.in_ok-classes.ensures.exact _ c.in_ok-first.first.items
    c.in_ok-first.ensures.labels in
    subst (λ (ls : List ℕ). AllByRecursion (λ l. l < length ls) c.deref-2.result.now) (sym c.deref.ensures.value)
    (subst (λ (ms : List ℕ). AllByRecursion (λ l. l < length c.in_ok-classes.classes.items) ms) (sym c.deref-2.ensures.value) below)

pub are_in_one-requires-clause-right : goal.are_in_one-requires-clause-right
are_in_one-requires-clause-right c =
    let old = shape_trees c.labels_at-2.new.shapes.keys in
    let new = shape_trees c.classes_of_labels.new.shapes.keys in
    let below = labels_below old new _ c.in_ok-classes.classes.items c.in_ok-classes.ensures.keeps c.in_ok-classes.ensures.exact _
    c.in_ok-second.second.items c.in_ok-second.ensures.labels in
    subst (λ (ls : List ℕ). AllByRecursion (λ l. l < length ls) c.deref-3.result.now) (sym c.deref.ensures.value)
    (subst (λ (ms : List ℕ). AllByRecursion (λ l. l < length c.in_ok-classes.classes.items) ms) (sym c.deref-3.ensures.value) below)

pub returns : goal.returns
returns c =
    let w = window_tree c.args.window.now in
    let left = probe_tree c.args.left.now in
    let classes = c.in_ok-classes.classes.items in
    let one = shape_trees c.labels_at.new.shapes.keys in
    let two = shape_trees c.labels_at-2.new.shapes.keys in
    let new = shape_trees c.classes_of_labels.new.shapes.keys in
    let exact = subst (λ (es : List Equated).
    AreExactClasses new (pairs_by (term_listed (map listed_tree c.args.window.now.updates)) (map equated_tree es)) classes)
    c.as_slice-equalities.ensures
    (subst (λ (us : List Listed).
    AreExactClasses new (pairs_by (term_listed (map listed_tree us)) (map equated_tree c.as_slice-equalities.result.now)) classes)
    c.as_slice-updates.ensures c.in_ok-classes.ensures.exact) in
    let first = subst (λ (us : List Listed).
    AreLabelsOf one (all_unfolded_by (map listed_tree us) w.left_at left.arguments) c.in_ok-first.first.items)
    c.as_slice-updates.ensures c.in_ok-first.ensures.labels in
    let second = subst (λ (us : List Listed).
    AreLabelsOf two (all_unfolded_by (map listed_tree us) w.length w.right.arguments) c.in_ok-second.second.items)
    c.as_slice-updates.ensures c.in_ok-second.ensures.labels in
    let exactly = left_exactly w new classes exact left c.if-left-window.false one two c.in_ok-second.ensures.keeps
    c.in_ok-classes.ensures.keeps c.in_ok-first.first.items c.in_ok-second.second.items first second in
    let firsts : map (λ l. get_or c.deref.result.now l 0) c.deref-2.result.now ≡ map (λ l. get_or classes l 0) c.in_ok-first.first.items =
    λ k. map (λ l. get_or (c.deref.ensures.value k) l 0) (c.deref-2.ensures.value k) in
    let seconds : map (λ l. get_or c.deref.result.now l 0) c.deref-3.result.now ≡ map (λ l. get_or classes l 0) c.in_ok-second.second.items =
    λ k. map (λ l. get_or (c.deref.ensures.value k) l 0) (c.deref-3.ensures.value k) in
    IfOk-weaker c.are_in_one.result _ (λ is. IsTrue is ↔ LeftIsAsRight (term_listed w.updates) w left)
    (λ is same. (λ yes. exactly.0 (sym firsts ∙ same.0 yes ∙ seconds), λ are. same.1 (firsts ∙ exactly.1 are ∙ sym seconds)))
    c.are_in_one.ensures
