use Rattle.std.proofs.Common.{◌∙◌, ◌<◌, ◌+◌, ◌==◌, ◌||◌, length, get_or, sym, ap, arith}
use Rattle.std.proofs.lemmas.Option.{slice_get-get_or}
use Rattle.base_library.proofs.Each.{each_at}
use Rattle.lane_planes.specs.Planes.{has_bit}
use Rattle.machines.specs.MachineView.{environment_tree}
use Rattle.branch_finder.specs.internal.Planes.{GoesUnder}
use Rattle.branch_finder.proofs.VisitLemmas.{is_environment, successor_below}
use Rattle.branch_finder.proofs.PlaneLemmas.{plane_first, plane_written}
use Rattle.branch_finder.proofs.MoveLemmas.{under_more, none_under}
use Rattle.branch_finder.proofs.linking.link_row.Goals as goal

pub loop-vector-init : goal.loop-vector-init
loop-vector-init c =
    let e = environment_tree c.args.environment.now in
    plane_first c.args.environment.now.states (GoesUnder e c.args.vectors.now c.args.state 0) c.in_ok-row.row.items c.in_ok-row.ensures.size
    c.in_ok-row.ensures.clear (none_under e c.args.vectors.now c.args.state)

pub successor-requires : goal.successor-requires
successor-requires c =
    let vectors = c.args.vectors.now in
    let index = c.loop-vector.vector-index in
    record {
      state = c.requires.state;
      vector = each_at (λ v. v < c.args.environment.now.vectors) vectors index (get_or vectors index 0) c.requires.vectors
          (slice_get-get_or vectors index 0 c.loop-vector-test.true);
    }

pub set_bit-requires : goal.set_bit-requires
set_bit-requires c =
    let e = environment_tree c.args.environment.now in
    let below = successor_below e (is_environment c.args.environment.now) c.args.state (get_or c.args.vectors.now c.loop-vector.vector-index 0)
    c.successor.result (sym c.successor.ensures) in
    record { within = omega (arith, below, ap length c.deref_mut.ensures.value, c.loop-vector.invariant.size) }

pub loop-vector-preserved : goal.loop-vector-preserved
loop-vector-preserved c =
    let e = environment_tree c.args.environment.now in
    let vectors = c.args.vectors.now in
    let index = c.loop-vector.vector-index in
    plane_written c.args.environment.now.states (GoesUnder e vectors c.args.state (index + 1)) c.loop-vector.row.len c.set_bit.new.plane _
    (sym (c.set_bit.ensures.size ∙ c.deref_mut.ensures.len))
    (under_more vectors index (get_or vectors index 0) (slice_get-get_or vectors index 0 c.loop-vector-test.true) e c.args.state
    c.successor.result c.args.environment.now.states c.loop-vector.row.items c.set_bit.new.plane (sym c.successor.ensures)
    c.loop-vector.invariant (c.set_bit.ensures.size ∙ ap length c.deref_mut.ensures.value)
    (λ i. c.set_bit.ensures.set i ∙ ap (λ plane. has_bit plane i || (i == c.successor.result)) c.deref_mut.ensures.value))
