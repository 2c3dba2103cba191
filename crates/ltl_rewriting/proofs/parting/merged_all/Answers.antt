use Rattle.ltl_rewriting.proofs.PartedMembers.{all_step}
use Rattle.ltl_rewriting.proofs.parting.merged_all.Goals as goal

pub loop-member-preserved : goal.loop-member-preserved
loop-member-preserved c loop i =
    all_step loop c.pop.new.self.items c.in-Some.member _ _ _ i (rw c.in-Some.ensures.items at (c.loop-member.invariant loop i))
    (c.in_ok-put_of_all.ensures loop i)
