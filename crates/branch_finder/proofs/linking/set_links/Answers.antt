use Rattle.std.proofs.Common.{◌∙◌, length, ap, subst, sym, arith, [], ◌∷◌, List, ℕ, slice_get, length-append}
use Rattle.std.proofs.lemmas.Option.{none-some}
use Rattle.letter_space.specs.SpaceView.{space_tree}
use Rattle.machines.specs.MachineView.{environment_tree}
use Rattle.branch_finder.specs.internal.Sets.{GoesBy}
use Rattle.branch_finder.specs.internal.Planes.{IsPlaneOf}
use Rattle.branch_finder.proofs.MoveLemmas.{masks_counted, within, row_is, rows_more}
use Rattle.branch_finder.proofs.linking.set_links.Goals as goal

pub vectors_with-requires : goal.vectors_with-requires
vectors_with-requires c = record {
  masks = masks_counted (space_tree c.args._space.now) c.args.environment.now.vectors c.args.masks.now c.requires.masks;
}

pub link_row-requires : goal.link_row-requires
link_row-requires c = record {
  vectors = within (space_tree c.args._space.now) (environment_tree c.args.environment.now) c.args.set c.args.masks.now c.as_slice.result.now
      c.requires.masks (c.as_slice.ensures.value ∙ c.in_ok-vectors.ensures);
  state = c.loop-state-test.true;
}

pub loop-state-init : goal.loop-state-init
loop-state-init c = (
  ap length c.new-rows.ensures,
  λ s row at. absurd (none-some row (sym (ap (λ (rs : List (List ℕ)). slice_get rs s) c.new-rows.ensures) ∙ at)),
)

pub loop-state-preserved : goal.loop-state-preserved
loop-state-preserved c =
    let space = space_tree c.args._space.now in
    let e = environment_tree c.args.environment.now in
    let rows = c.loop-state.rows in
    let state = c.loop-state.state in
    let row = c.from_vec.result in (
      omega (arith, ap length c.in_ok-push.ensures.ok, length-append rows (row ∷ []), c.loop-state.invariant.0),
      λ s r at.
          rows_more (λ n r. IsPlaneOf c.args.environment.now.states (GoesBy space e c.args.set n) r) rows state row
          c.loop-state.invariant.0 c.loop-state.invariant.1
          (subst (IsPlaneOf c.args.environment.now.states (GoesBy space e c.args.set state)) (sym c.from_vec.ensures)
          (row_is space e c.args.set c.args.masks.now c.as_slice.result.now c.requires.masks
          (c.as_slice.ensures.value ∙ c.in_ok-vectors.ensures) state c.in_ok-row.row.items c.in_ok-row.ensures)) s r
          (sym (ap (λ (rs : List (List ℕ)). slice_get rs s) c.in_ok-push.ensures.ok) ∙ at),
    )

pub returns : goal.returns
returns c = record {
  one_each = omega (arith, c.loop-state.invariant.0, c.loop-state-test.false, c.loop-state.auto.state-end);
  each = c.loop-state.invariant.1;
}
