use Rattle.std.proofs.Common.{refl, arith, inl}
use Rattle.clause_learning.specs.NumberSets.{contains}
use Rattle.clause_learning.specs.Queues.{activity_of}
use Rattle.clause_learning.proofs.Queueing.{next_active, next_inactive, none_queued, queue_changed, unchanged, member_still, queued_below}
use Rattle.clause_learning.proofs.queue.VariableQueue.pop.Goals as goal

pub returns-then-first-gt0-clause-next : goal.returns-then-first-gt0-clause-next
returns-then-first-gt0-clause-next c = let first = c.first-first in
    next_active c.args.self.now c.requires.queue first.result first.ensures.weight first.ensures.first (omega (arith, c.if-first-gt0.true))

pub returns-then-first-gt0-clause-queue : goal.returns-then-first-gt0-clause-queue
returns-then-first-gt0-clause-queue c =
    let old = c.args.self.now in
    let first = c.first-first in
    let v = first.result.variable in
    let next = next_active old c.requires.queue first.result first.ensures.weight first.ensures.first (omega (arith, c.if-first-gt0.true)) in
    record {
      queue = queue_changed old (record old { active = c.set.new.self }) v 0 (contains old.inactive v) (activity_of old v) c.requires.queue (record {
        within = queued_below old c.requires.queue v next.queued;
        fitting = inl refl;
        none = λ h. (c.requires.queue.inactive v h).1;
        count = refl;
        weighed = c.set.ensures;
        written = member_still old.inactive v c.requires.queue.set;
        activities = unchanged (activity_of old) v;
      });
      bounded = record { activities = c.requires.bounded.activities; increment = c.requires.bounded.increment };
    }

pub returns-in-None-clause-next : goal.returns-in-None-clause-next
returns-in-None-clause-next c = let first = c.first-first in
    none_queued c.args.self.now c.requires.queue first.result first.ensures.weight first.ensures.first (omega (arith, c.if-first-gt0.false)) c.in-None.ensures

pub returns-in-Some-clause-next : goal.returns-in-Some-clause-next
returns-in-Some-clause-next c = let first = c.first-first in
    next_inactive c.args.self.now c.requires.queue first.result first.ensures.weight first.ensures.first (omega (arith, c.if-first-gt0.false))
    c.in-Some.least c.in-Some.ensures
