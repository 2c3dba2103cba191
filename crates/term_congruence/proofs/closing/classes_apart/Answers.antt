use Rattle.std.proofs.Common.{ℕ, Vec, Global, ◌≡◌, ◌∙◌, ◌+◌, length, sym, ap, arith, subst}
use Rattle.std.proofs.lemmas.List.{length-map}
use Rattle.base_library.proofs.Each.{each_at}
use Rattle.term_congruence.specs.internal.Closing.{HasPartsBelow, AreKeysFound}
use Rattle.term_congruence.specs.internal.ShapeView.{shape_tree, shape_trees}
use Rattle.term_congruence.proofs.FoundLemmas.{found_before, found_new, found_apart, all_found, shape_there, placed_within, once_read}
use Rattle.term_congruence.proofs.closing.classes_apart.Goals as goal
use Rattle.term_congruence.proofs.closing.classes_apart.Goals.{then-place-len+in_ok-push, else-place-len+else-index-classes}

pub shape_by_classes-requires : goal.shape_by_classes-requires
shape_by_classes-requires c =
    subst (λ n. HasPartsBelow n (shape_tree c.index-shapes-label.result)) (sym c.requires.long)
    (each_at (HasPartsBelow (length (shape_trees c.args.shapes.now))) (shape_trees c.args.shapes.now) c.loop-label.label _ c.requires.within
    (shape_there c.args.shapes.now c.loop-label.label c.index-shapes-label.result c.loop-label-test.true c.index-shapes-label.is))

pub index-requires : goal.index-requires
index-requires c =
    rw c.loop-label.found.ok.0 (placed_within _ _ _ _ _ _ _ _ c.loop-label.invariant c.in_ok-place.ensures
    (λ e. c.if-place-len.false (e ∙ sym c.loop-label.found.ok.0 ∙ sym c.len.ensures)))

pub index-requires-then-index-classes : goal.index-requires-then-index-classes
index-requires-then-index-classes c =
    rw c.loop-label.found.ok.0 (placed_within _ _ _ _ _ _ _ _ c.loop-label.invariant c.in_ok-place.ensures
    (λ e. c.if-place-len.false (e ∙ sym c.loop-label.found.ok.0 ∙ sym c.len.ensures)))

pub returns-then-index-classes-clause-some : goal.returns-then-index-classes-clause-some
returns-then-index-classes-clause-some c =
    found_apart (shape_trees c.args.shapes.now) c.args.classes.now c.loop-label.label _ _ c.loop-label.found.items c.in_ok-place.place
    c.index-then-index-classes.result.now (shape_tree c.index-shapes-label.result) c.loop-label.invariant
    (shape_there c.args.shapes.now c.loop-label.label c.index-shapes-label.result c.loop-label-test.true c.index-shapes-label.is)
    (rw c.in_ok-key.ensures at c.in_ok-place.ensures) (λ e. c.if-place-len.false
    (e ∙ sym c.loop-label.found.ok.0 ∙ sym c.len.ensures)) c.index-then-index-classes.ensures
    (λ e. c.if-index-classes.true (once_read c.loop-label.found.items c.in_ok-place.place _ _
    (placed_within _ _ _ _ _ _ _ _ c.loop-label.invariant c.in_ok-place.ensures
    (λ e. c.if-place-len.false (e ∙ sym c.loop-label.found.ok.0 ∙ sym c.len.ensures)))
    c.index.ensures c.index-then-index-classes.ensures ∙ e))

pub loop-label-preserved : goal.loop-label-preserved
loop-label-preserved c = elim c.if-place-len.branch [
  | then-place-len+in_ok-push w ↦ (
      found_new (shape_trees c.args.shapes.now) c.args.classes.now c.loop-label.label _ _ c.loop-label.found.items c.if-place-len.found.items
      c.in_ok-place.place (shape_tree c.index-shapes-label.result) c.loop-label.invariant
      (shape_there c.args.shapes.now c.loop-label.label c.index-shapes-label.result c.loop-label-test.true c.index-shapes-label.is)
      (rw c.in_ok-key.ensures at c.in_ok-place.ensures) (w.if-place-len.true ∙ c.len.ensures ∙ c.loop-label.found.ok.0)
      (ap (λ (v : Vec ℕ Global). v.items) w.found-is ∙ w.in_ok-push.ensures.items))
  | else-place-len+else-index-classes w ↦ (
      subst (λ ns. AreKeysFound (shape_trees c.args.shapes.now) c.args.classes.now (c.loop-label.label + 1)
      (shape_trees c.place_of_shape.new.shapes.keys) ns)
      (sym (ap (λ (v : Vec ℕ Global). v.items) w.found-is))
      (found_before (shape_trees c.args.shapes.now) c.args.classes.now c.loop-label.label _ _ c.loop-label.found.items
      c.in_ok-place.place w.index.result.now (shape_tree c.index-shapes-label.result) c.loop-label.invariant
      (shape_there c.args.shapes.now c.loop-label.label c.index-shapes-label.result c.loop-label-test.true c.index-shapes-label.is)
      (rw c.in_ok-key.ensures at c.in_ok-place.ensures) (λ e. w.if-place-len.false
      (e ∙ sym c.loop-label.found.ok.0 ∙ sym c.len.ensures)) w.index.ensures w.if-index-classes.false))
]

pub returns-clause-none : goal.returns-clause-none
returns-clause-none c = all_found (shape_trees c.args.shapes.now) c.args.classes.now c.loop-label.label (shape_trees c.loop-label.seen.keys)
    c.loop-label.found.items c.loop-label.invariant (let e : length (shape_trees c.args.shapes.now) ≡ length c.args.shapes.now = length-map c.args.shapes.now shape_tree in omega (arith, e, c.loop-label-test.false))
