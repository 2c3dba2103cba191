use Rattle.std.proofs.Common.{◌+◌, not, subst, sym}
use Rattle.loop_shape.specs.AlongLoop.{until_at}
use Rattle.position_planes.specs.Positions.{IsPlaneOf, loop_of}
use Rattle.position_planes.proofs.operators.release.Goals as goal

pub returns : goal.returns
returns c = λ a b on_left on_right.
    let n = c.args.start + c.args.round in
    c.negated-2.ensures.truths n (until_at (loop_of c.args.start c.args.round) (λ i. not (a i)) (λ i. not (b i)))
    (c.until.ensures.truths (λ i. not (a i)) (λ i. not (b i)) (c.negated.ensures.truths n a on_left)
    (subst (IsPlaneOf n (λ i. not (b i))) (sym c.deref.ensures.value) (c.negated-fails.ensures.truths n b on_right)))
