use Rattle.std.proofs.Common.{◌∙◌, ◌+◌, subst, sym, drop, length}
use Rattle.loop_shape.specs.AlongLoop.{next_at}
use Rattle.position_planes.specs.Positions.{IsPlaneOf, loop_of}
use Rattle.position_planes.proofs.PlaneLemmas.{written_plane}
use Rattle.position_planes.proofs.operators.next.Goals as goal

pub returns : goal.returns
returns c = λ a on. written_plane (c.args.start + c.args.round) (next_at (loop_of c.args.start c.args.round) a) c.args.plane.len
    c.next_into.new.plane (drop (length c.next_into.new.plane) c.args.plane.items) (sym (c.next_into.auto.plane ∙ c.deref_mut.ensures.len))
    (c.next_into.ensures a (subst (IsPlaneOf (c.args.start + c.args.round) a) (sym c.deref_mut.ensures.value) on))
