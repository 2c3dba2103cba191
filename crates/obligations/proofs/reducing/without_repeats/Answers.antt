use Rattle.obligations.proofs.ReducingLemmas.{insert_step}
use Rattle.obligations.proofs.reducing.without_repeats.Goals as goal

pub loop-choice-preserved : goal.loop-choice-preserved
loop-choice-preserved c = insert_step c.loop-choice.yielded c.loop-choice.kept.keys c.insert.new.self.keys c.in-Some.choice
    c.loop-choice.invariant c.in_ok-insert.ensures.keys
