use Rattle.obligations.proofs.WeightLemmas.{weights_step, bound_step}
use Rattle.obligations.proofs.rounds.weights_of.Goals as goal

pub loop-choice-preserved : goal.loop-choice-preserved
loop-choice-preserved c = record {
  weights = weights_step c.args.choices.now c.loop-choice.choice-index c.choice-item.result c.loop-choice-test.true c.choice-item.is _ _
      c.in_ok-own.own c.in_ok-own.ensures.weight c.loop-choice.invariant.weights c.in_ok-push.ensures.items;
  bound = bound_step c.args.choices.now c.loop-choice.choice-index c.choice-item.result c.loop-choice-test.true c.choice-item.is
      c.in_ok-own.own c.loop-choice.bound c.bound_above-bound.result c.in_ok-own.ensures.weight c.loop-choice.invariant.bound
      c.bound_above-bound.ensures.more c.bound_above-bound.ensures.above;
  small = c.bound_above-bound.ensures.small c.loop-choice.invariant.small;
}
