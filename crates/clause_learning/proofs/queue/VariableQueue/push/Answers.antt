use Rattle.std.proofs.Common.{◌≡◌, true, length, refl, sym, arith, inr}
use Rattle.std.proofs.lemmas.Option.{get_or_from_slice_get, slice_get_read}
use Rattle.clause_learning.specs.NumberSets.{contains}
use Rattle.clause_learning.specs.Tournaments.{weight}
use Rattle.clause_learning.specs.Queues.{activity_of}
use Rattle.clause_learning.proofs.Queueing.{queue_changed, unchanged, weighs_still, member_still}
use Rattle.clause_learning.proofs.queue.VariableQueue.push.Goals as goal
use Rattle.clause_learning.proofs.queue.VariableQueue.push.Goals.{After-index-activity}

read : (c : After-index-activity) → activity_of c.args.self.now c.args.variable ≡ c.index-activity.result.now
read c = let activities = c.args.self.now.activities.items in
    get_or_from_slice_get activities c.args.variable c.index-activity.result.now 0
    (slice_get_read activities (length activities) c.args.variable c.index-activity.result.now refl c.requires.within c.index-activity.ensures)

pub returns-then-activity-gt0-clause-queue : goal.returns-then-activity-gt0-clause-queue
returns-then-activity-gt0-clause-queue c =
    let old = c.args.self.now in
    let v = c.args.variable in
    record {
      queue = queue_changed old (record old { active = c.set.new.self }) v c.index-activity.result.now (contains old.inactive v)
          (activity_of old v) c.requires.queue.queue (record {
            within = c.requires.within;
            fitting = inr (sym (read (goal.at.returns-then-activity-gt0-clause-queue c).After-index-activity));
            none = λ h. (c.requires.queue.queue.inactive v h).1;
            count = refl;
            weighed = c.set.ensures;
            written = member_still old.inactive v c.requires.queue.queue.set;
            activities = unchanged (activity_of old) v;
          });
      bounded = record { activities = c.requires.queue.bounded.activities; increment = c.requires.queue.bounded.increment };
    }

pub returns-else-activity-gt0-clause-queue : goal.returns-else-activity-gt0-clause-queue
returns-else-activity-gt0-clause-queue c =
    let old = c.args.self.now in
    let v = c.args.variable in
    let none : activity_of old v ≡ 0 = omega (arith, read (goal.at.returns-else-activity-gt0-clause-queue c).After-index-activity, c.if-activity-gt0.false) in
    record {
      queue = queue_changed old (record old { inactive = c.set-else-activity-gt0.new.self }) v (weight old.active v) true
          (activity_of old v) c.requires.queue.queue (record {
            within = c.requires.within;
            fitting = c.requires.queue.queue.active v;
            none = λ h. none;
            count = refl;
            weighed = weighs_still old.active v c.requires.queue.queue.tournament;
            written = c.set-else-activity-gt0.ensures;
            activities = unchanged (activity_of old) v;
          });
      bounded = record { activities = c.requires.queue.bounded.activities; increment = c.requires.queue.bounded.increment };
    }
