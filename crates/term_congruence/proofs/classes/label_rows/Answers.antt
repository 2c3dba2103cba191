use Rattle.std.proofs.Common.{◌≡◌, ◌+◌, List, ℕ, map, sym, subst, add-one, arith}
use Rattle.tsl_terms.specs.TermTree.{term_tree, terms_of}
use Rattle.tsl_terms.specs.WindowTree.{listed_tree}
use Rattle.term_congruence.specs.internal.Shapes.{AreLabelsOf, AreReady, all_unfolded_by}
use Rattle.term_congruence.specs.internal.ShapeView.{shape_trees}
use Rattle.term_congruence.proofs.Labels.{still_ready}
use Rattle.term_congruence.proofs.Tables.{rows_kept, one_row_more}
use Rattle.term_congruence.specs.internal.Rows.{AreStepRows}
use Rattle.term_congruence.proofs.ShapeLemmas.{keeps_on}
use Rattle.term_congruence.proofs.classes.label_rows.Goals as goal

pub labels_of_updates-requires : goal.labels_of_updates-requires
labels_of_updates-requires c =
    let updates = map listed_tree c.args.updates.now in
    record {
      ready = subst (λ (ns : List ℕ). AreReady (shape_trees c.labels_of_terms.new.shapes.keys) updates c.loop-step.step ns)
          (sym c.as_slice-in-loop-step.ensures.value)
          (still_ready (shape_trees c.loop-step.shapes.keys) (shape_trees c.labels_of_terms.new.shapes.keys) updates c.loop-step.step
          c.loop-step.before.items c.in_ok-row.ensures.keeps c.loop-step.invariant.ready);
    }

pub loop-step-preserved : goal.loop-step-preserved
loop-step-preserved c =
    let updates = map listed_tree c.args.updates.now in
    let terms = map term_tree c.args.terms.now in
    let step = c.loop-step.step in
    let old = shape_trees c.loop-step.shapes.keys in
    let between = shape_trees c.labels_of_terms.new.shapes.keys in
    let new = shape_trees c.labels_of_updates.new.shapes.keys in
    record {
      keeps = keeps_on _ _ _ c.loop-step.invariant.keeps (keeps_on _ _ _ c.in_ok-row.ensures.keeps c.in_ok-before.ensures.keeps);
      ready = c.in_ok-before.ensures.ready;
      rows = rows_kept updates terms between new c.push.new.self (step + 1) c.in_ok-before.ensures.keeps
          (one_row_more updates terms between c.loop-step.rows c.push.new.self c.from_vec.result step
          (subst (AreLabelsOf between (all_unfolded_by updates step (terms_of terms))) (sym c.from_vec.ensures) c.in_ok-row.ensures.labels)
          c.in_ok-push.ensures.ok
          (rows_kept updates terms old between c.loop-step.rows step c.in_ok-row.ensures.keeps c.loop-step.invariant.rows));
    }

pub returns-clause-rows : goal.returns-clause-rows
returns-clause-rows c =
    let updates = map listed_tree c.args.updates.now in
    let terms = map term_tree c.args.terms.now in
    let old = shape_trees c.loop-step.shapes.keys in
    let new = shape_trees c.labels_of_terms-2.new.shapes.keys in
    let end : c.loop-step.step ≡ c.args.length = omega (arith, c.loop-step-test.false, c.loop-step.auto.step-end) in
    let rows = subst (AreStepRows updates terms new c.loop-step.rows) end
    (rows_kept updates terms old new c.loop-step.rows c.loop-step.step c.in_ok-last.ensures.keeps c.loop-step.invariant.rows) in
    let all = one_row_more updates terms new c.loop-step.rows c.push-2.new.self c.from_vec-2.result c.args.length
    (subst (AreLabelsOf new (all_unfolded_by updates c.args.length (terms_of terms))) (sym c.from_vec-2.ensures)
    c.in_ok-last.ensures.labels)
    c.in_ok-push-2.ensures.ok rows in
    subst (AreStepRows updates terms new c.push-2.new.self) (add-one c.args.length) all

pub returns-clause-keeps : goal.returns-clause-keeps
returns-clause-keeps c = keeps_on _ _ _ c.loop-step.invariant.keeps c.in_ok-last.ensures.keeps
