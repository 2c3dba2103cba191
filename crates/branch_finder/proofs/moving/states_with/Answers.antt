use Rattle.std.proofs.Common.{◌≡◌, ◌∙◌, ◌+◌, ◌&&◌, ◌||◌, ◌==◌, slice_get, get_or, length, sym, ap, subst, arith}
use Rattle.std.proofs.lemmas.Option.{slice_get-get_or}
use Rattle.lane_planes.specs.Planes.{has_bit}
use Rattle.machines.specs.MachineView.{environment_tree}
use Rattle.branch_finder.specs.internal.Planes.{IsPlaneOf, IsKept}
use Rattle.branch_finder.proofs.PlaneLemmas.{plane_first, plane_written}
use Rattle.branch_finder.proofs.MoveLemmas.{none_kept, kept_more}
use Rattle.branch_finder.proofs.moving.states_with.Goals as goal

pub loop-state-init : goal.loop-state-init
loop-state-init c =
    let e = environment_tree c.args.environment.now in
    plane_first e.states (IsKept e c.args.plane.now c.args.wanted.mask c.args.wanted.bits 0) c.in_ok-kept.kept.items
    c.in_ok-kept.ensures.size
    c.in_ok-kept.ensures.clear (none_kept e c.args.plane.now c.args.wanted.mask c.args.wanted.bits)

pub loop-state-preserved : goal.loop-state-preserved
loop-state-preserved c =
    let e = environment_tree c.args.environment.now in
    let truths = c.as_slice-truths-items.result.now in
    let state = c.loop-state.state in
    plane_written e.states (IsKept e c.args.plane.now c.args.wanted.mask c.args.wanted.bits (state + 1)) c.loop-state.kept.len
    c.set_if.new.plane _
    (sym (c.set_if.ensures.size ∙ c.deref_mut.ensures.len))
    (kept_more e c.args.plane.now c.args.wanted.mask c.args.wanted.bits state (get_or truths state 0) c.belongs.result e.states
    c.loop-state.kept.items
    c.set_if.new.plane
    (ap (λ ts. slice_get ts state) (sym c.as_slice-truths-items.ensures) ∙ slice_get-get_or truths state 0 c.loop-state-test.true)
    c.belongs.ensures c.loop-state.invariant (c.set_if.ensures.size ∙ ap length c.deref_mut.ensures.value)
    (λ i. c.set_if.ensures.set i ∙ ap (λ plane. has_bit plane i || (c.belongs.result && (i == state))) c.deref_mut.ensures.value))

pub returns : goal.returns
returns c =
    let e = environment_tree c.args.environment.now in
    let end : c.loop-state.state ≡ e.states = omega (
      arith,
      c.loop-state-test.false,
      c.loop-state.auto.state-end,
      ap length c.as_slice-truths-items.ensures,
      c.args.environment.now.has_truths,
    ) in
    subst (λ k. IsPlaneOf e.states (IsKept e c.args.plane.now c.args.wanted.mask c.args.wanted.bits k) c.loop-state.kept.items) end
    c.loop-state.invariant
