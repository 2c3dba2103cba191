use Rattle.std.proofs.Common.{◌≡◌, ◌∙◌, ◌+◌, ◌&&◌, ◌||◌, length, sym, ap, subst, arith}
use Rattle.lane_planes.specs.Planes.{has_bit}
use Rattle.letter_space.specs.SpaceView.{space_tree}
use Rattle.machines.specs.MachineView.{environment_tree}
use Rattle.branch_finder.specs.internal.Sets.{numbered_set}
use Rattle.branch_finder.specs.internal.Planes.{IsPlaneOf, GoesFrom}
use Rattle.branch_finder.proofs.PlaneLemmas.{plane_first, plane_written}
use Rattle.branch_finder.proofs.MoveLemmas.{none_gone, gone_more, rows_there, row_there}
use Rattle.branch_finder.proofs.moving.stepped.Goals as goal

pub loop-state-init : goal.loop-state-init
loop-state-init c =
    let search = c.args.search.now in
    let space = space_tree search.space.now in
    let e = environment_tree search.environment.now in
    let set = numbered_set space search.cells.now search.firsts.now c.args.number in
    plane_first e.states (GoesFrom space e set c.args.plane.now 0) c.in_ok-next.next.items c.in_ok-next.ensures.size
    c.in_ok-next.ensures.clear (none_gone space e set c.args.plane.now)

pub add_row-requires-clause-state : goal.add_row-requires-clause-state
add_row-requires-clause-state c =
    let search = c.args.search.now in
    let space = space_tree search.space.now in
    let e = environment_tree search.environment.now in
    let are = rows_there space e search.cells.now search.firsts.now search.links.now c.args.number c.index-search-number.result
    c.as_slice-rows.result.now c.requires.search.links c.requires.number c.index-search-number.is
    (c.as_slice-rows.ensures ∙ sym c.index-search-number.is) in
    omega (arith, are.one_each, c.loop-state-test.true, c.requires.size)

pub add_row-requires-clause-row : goal.add_row-requires-clause-row
add_row-requires-clause-row c =
    let search = c.args.search.now in
    let space = space_tree search.space.now in
    let e = environment_tree search.environment.now in
    let is = row_there space e search.cells.now search.firsts.now search.links.now c.args.number c.index-search-number.result
    c.as_slice-rows.result.now c.requires.search.links c.requires.number c.index-search-number.is
    (c.as_slice-rows.ensures ∙ sym c.index-search-number.is) c.loop-state.state
    c.index-rows-state.result c.loop-state-test.true c.index-rows-state.is in
    omega (arith, is.size, ap length c.as_slice.ensures, ap length c.deref_mut.ensures.value, c.loop-state.invariant.size)

pub loop-state-preserved : goal.loop-state-preserved
loop-state-preserved c =
    let search = c.args.search.now in
    let space = space_tree search.space.now in
    let e = environment_tree search.environment.now in
    let set = numbered_set space search.cells.now search.firsts.now c.args.number in
    let state = c.loop-state.state in
    let is = row_there space e search.cells.now search.firsts.now search.links.now c.args.number c.index-search-number.result
    c.as_slice-rows.result.now c.requires.search.links c.requires.number c.index-search-number.is
    (c.as_slice-rows.ensures ∙ sym c.index-search-number.is) state
    c.index-rows-state.result c.loop-state-test.true c.index-rows-state.is in
    plane_written e.states (GoesFrom space e set c.args.plane.now (state + 1)) c.loop-state.next.len c.add_row.new.next _
    (sym (c.add_row.ensures.size ∙ c.deref_mut.ensures.len))
    (gone_more space e set c.args.plane.now state c.index-rows-state.result c.loop-state.next.items c.add_row.new.next is
    c.loop-state.invariant (c.add_row.ensures.size ∙ ap length c.deref_mut.ensures.value)
    (λ t. c.add_row.ensures.bits t
    ∙ (λ i. has_bit (c.deref_mut.ensures.value i) t || (has_bit c.args.plane.now state && has_bit (c.as_slice.ensures i) t))))

pub returns : goal.returns
returns c =
    let search = c.args.search.now in
    let space = space_tree search.space.now in
    let e = environment_tree search.environment.now in
    let set = numbered_set space search.cells.now search.firsts.now c.args.number in
    let are = rows_there space e search.cells.now search.firsts.now search.links.now c.args.number c.index-search-number.result
    c.as_slice-rows.result.now c.requires.search.links c.requires.number c.index-search-number.is
    (c.as_slice-rows.ensures ∙ sym c.index-search-number.is) in
    let end : c.loop-state.state ≡ e.states = omega (arith, are.one_each, c.loop-state-test.false, c.loop-state.auto.state-end) in
    subst (λ k. IsPlaneOf e.states (GoesFrom space e set c.args.plane.now k) c.loop-state.next.items) end c.loop-state.invariant
