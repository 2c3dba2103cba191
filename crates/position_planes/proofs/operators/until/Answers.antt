use Rattle.std.proofs.Common.{◌∙◌, ◌+◌, subst, sym, drop, length}
use Rattle.loop_shape.specs.AlongLoop.{until_at}
use Rattle.position_planes.specs.Positions.{IsPlaneOf, loop_of}
use Rattle.position_planes.proofs.PlaneLemmas.{written_plane}
use Rattle.position_planes.proofs.operators.until.Goals as goal

pub returns-clause-truths : goal.returns-clause-truths
returns-clause-truths c = λ a b on_left on_right. written_plane (c.args.start + c.args.round) (until_at (loop_of c.args.start
    c.args.round) a b)
    c.args.left.len c.until_into.new.left (drop (length c.until_into.new.left) c.args.left.items)
    (sym (c.until_into.auto.left ∙ c.deref_mut.ensures.len))
    (c.until_into.ensures a b (subst (IsPlaneOf (c.args.start + c.args.round) a) (sym c.deref_mut.ensures.value) on_left) on_right)
