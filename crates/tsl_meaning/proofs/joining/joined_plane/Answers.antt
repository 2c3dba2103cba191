use Rattle.tsl_meaning.proofs.joining.joined_plane.Goals as goal

pub returns-in-Conjunction : goal.returns-in-Conjunction
returns-in-Conjunction c = rw c.in-Conjunction.is (λ n a b on_left on_right. c.both.ensures.truths n a b on_left on_right)

pub returns-in-Disjunction : goal.returns-in-Disjunction
returns-in-Disjunction c = rw c.in-Disjunction.is (λ n a b on_left on_right. c.either.ensures.truths n a b on_left on_right)
