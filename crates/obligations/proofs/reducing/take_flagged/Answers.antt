use Rattle.obligations.proofs.ReducingLemmas.{flagged_push, one_longer}
use Rattle.obligations.proofs.reducing.take_flagged.Goals as goal

pub loop-choice-preserved : goal.loop-choice-preserved
loop-choice-preserved c = (
  one_longer c.loop-choice.yielded c.loop-choice.place c.in-Some.choice c.loop-choice.invariant.0,
  flagged_push c.loop-choice.yielded c.loop-choice.kept.items c.push_choice_if.new.list.items c.args.flags.now c.loop-choice.place c.in-Some.choice
      c.loop-choice.invariant.0 c.loop-choice.invariant.1 c.in_ok-push_choice_if.ensures,
)
