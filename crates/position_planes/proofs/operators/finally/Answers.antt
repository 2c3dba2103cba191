use Rattle.std.proofs.Common.{◌+◌, true, subst, sym}
use Rattle.loop_shape.specs.AlongLoop.{finally_at, until_at}
use Rattle.loop_shape.proofs.Words.{finally_is_until}
use Rattle.position_planes.specs.Positions.{IsPlaneOf, loop_of}
use Rattle.position_planes.proofs.PlaneLemmas.{same_truths}
use Rattle.position_planes.proofs.operators.finally.Goals as goal

pub returns : goal.returns
returns c = λ a on.
    let n = c.args.start + c.args.round in
    let shape = loop_of c.args.start c.args.round in
    same_truths n (until_at shape (λ i. true) a) (finally_at shape a) c.until.result.items (λ i. sym (finally_is_until shape a i))
    (c.until.ensures.truths (λ i. true) a c.in_ok-everywhere.ensures (subst (IsPlaneOf n a) (sym c.deref.ensures.value) on))
