use Rattle.ltl_rewriting.proofs.PartedMembers.{any_step}
use Rattle.ltl_rewriting.proofs.parting.merged_any.Goals as goal

pub loop-member-preserved : goal.loop-member-preserved
loop-member-preserved c loop i =
    any_step loop c.pop.new.self.items c.in-Some.member _ _ _ i (rw c.in-Some.ensures.items at (c.loop-member.invariant loop i))
    (c.in_ok-put_of_any.ensures loop i)
