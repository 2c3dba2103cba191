use Rattle.std.proofs.Common.{not}
use Rattle.position_planes.proofs.operators.implied.Goals as goal

pub returns-clause-truths : goal.returns-clause-truths
returns-clause-truths c = λ n a b on_left on_right.
    c.either.ensures.truths n (λ i. not (a i)) b (c.negated.ensures.truths n a on_left) on_right
