use Rattle.std.proofs.Common.{◌∙◌, ◌<◌, ◌+◌, ◌==◌, ◌||◌, length, get_or, sym, ap, arith}
use Rattle.std.proofs.lemmas.Option.{slice_get-get_or}
use Rattle.base_library.proofs.Each.{each_at}
use Rattle.lane_planes.specs.Planes.{has_bit}
use Rattle.branch_finder.specs.internal.Planes.{IsListed}
use Rattle.branch_finder.proofs.PlaneLemmas.{plane_first, plane_written}
use Rattle.branch_finder.proofs.MoveLemmas.{listed_more, none_listed}
use Rattle.branch_finder.proofs.moving.plane_of.Goals as goal

pub loop-state-init : goal.loop-state-init
loop-state-init c =
    plane_first c.args.states (IsListed c.args.listed.now 0) c.in_ok-plane.plane.items c.in_ok-plane.ensures.size
    c.in_ok-plane.ensures.clear (none_listed c.args.listed.now)

pub set_bit-requires : goal.set_bit-requires
set_bit-requires c =
    let listed = c.args.listed.now in
    let index = c.loop-state.state-index in
    let below = each_at (λ s. s < c.args.states) listed index (get_or listed index 0) c.requires.within
    (slice_get-get_or listed index 0 c.loop-state-test.true) in
    record { within = omega (arith, below, ap length c.deref_mut.ensures.value, c.loop-state.invariant.size) }

pub loop-state-preserved : goal.loop-state-preserved
loop-state-preserved c =
    let listed = c.args.listed.now in
    let index = c.loop-state.state-index in
    plane_written c.args.states (IsListed listed (index + 1)) c.loop-state.plane.len c.set_bit.new.plane _
    (sym (c.set_bit.ensures.size ∙ c.deref_mut.ensures.len))
    (listed_more listed index (get_or listed index 0) (slice_get-get_or listed index 0 c.loop-state-test.true) c.args.states
    c.loop-state.plane.items c.set_bit.new.plane c.loop-state.invariant (c.set_bit.ensures.size ∙ ap length c.deref_mut.ensures.value)
    (λ i. c.set_bit.ensures.set i ∙ ap (λ plane. has_bit plane i || (i == get_or listed index 0)) c.deref_mut.ensures.value))
