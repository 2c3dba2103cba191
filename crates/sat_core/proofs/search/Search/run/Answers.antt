use Rattle.sat_core.proofs.SearchNotes.{decided_smaller, learnt_smaller}
use Rattle.sat_core.proofs.search.Search.run.Goals as goal

pub loop-self-smaller-in_default : goal.loop-self-smaller-in_default
loop-self-smaller-in_default c =
    let p = c.in_ok-conflict.ensures in
    let d = c.in_ok-assignment.ensures in
    let none = c.in_default-2.is in
    decided_smaller (rw none at d.searching) p.spent p.grown (rw none at d.spent) (rw none at d.grown)

pub loop-self-smaller : goal.loop-self-smaller
loop-self-smaller c = learnt_smaller c.in_ok-conflict.ensures.spent c.in_ok-learn.ensures.spent c.in_ok-reduce.ensures.spent
