use Rattle.std.proofs.Common.{◌≡◌, ◌∙◌, ◌+◌, Bool, true, false, not, refl}
use Rattle.loop_shape.specs.AlongLoop.{finally_at, globally_at}
use Rattle.loop_shape.proofs.Words.{not_finally}
use Rattle.position_planes.specs.Positions.{loop_of}
use Rattle.position_planes.proofs.PlaneLemmas.{same_truths}
use Rattle.position_planes.proofs.operators.globally.Goals as goal

not_not : (b : Bool) → not (not b) ≡ b
not_not true = refl
not_not false = refl

pub returns : goal.returns
returns c = λ a on.
    let n = c.args.start + c.args.round in
    let shape = loop_of c.args.start c.args.round in
    same_truths n (λ i. not (finally_at shape (λ j. not (a j)) i)) (globally_at shape a) c.negated-2.result.items
    (λ i. not_finally shape (λ j. not (a j)) i ∙ (λ k. globally_at shape (λ j. not_not (a j) k) i))
    (c.negated-2.ensures.truths n (finally_at shape (λ j. not (a j)))
    (c.in_ok-fails.ensures (λ j. not (a j)) (c.negated.ensures.truths n a on)))
