use Rattle.std.proofs.Common.{◌+◌, ◌||◌, subst, sym}
use Rattle.std.proofs.Math.Bool.{or_comm}
use Rattle.position_planes.specs.Positions.{IsPlaneOf}
use Rattle.position_planes.proofs.PlaneLemmas.{same_truths}
use Rattle.position_planes.proofs.operators.weak_until.Goals as goal

pub returns : goal.returns
returns c = λ a b on_left on_right.
    let n = c.args.start + c.args.round in
    c.release.ensures b (λ i. b i || a i) on_right
    (same_truths n (λ i. a i || b i) (λ i. b i || a i) c.either-kept.result.items (λ i. or_comm (a i) (b i))
    (c.either-kept.ensures.truths n a b on_left (subst (IsPlaneOf n b) (sym c.deref.ensures.value) on_right)))
