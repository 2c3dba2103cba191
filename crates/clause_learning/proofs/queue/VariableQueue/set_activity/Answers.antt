use Rattle.std.proofs.Common.{◌==◌, Bool, cond, refl, sym, ap, ◌∙◌, inl, inr}
use Rattle.std.specs.Vec.{with_item}
use Rattle.std.proofs.lemmas.Bool.{eqb-true, true≢false}
use Rattle.std.proofs.lemmas.List.{length-set}
use Rattle.clause_learning.specs.declared.queue.VariableQueue.{VariableQueue}
use Rattle.clause_learning.specs.NumberSets.{contains}
use Rattle.clause_learning.specs.Tournaments.{weight}
use Rattle.clause_learning.specs.Queues.{is_queued}
use Rattle.clause_learning.proofs.Queueing.{IsChanged, queue_changed, queued_changed, unchanged, weighs_still, member_still}
use Rattle.clause_learning.proofs.Queueing.{written_at, counted, none_left}
use Rattle.clause_learning.proofs.queue.VariableQueue.set_activity.Goals.{After-set-then-queued}
use Rattle.clause_learning.proofs.queue.VariableQueue.set_activity.Goals as goal

abbrev after : (c : After-set-then-queued) → VariableQueue
after c = record {
  active = c.set.new.self;
  inactive = c.set-then-queued.new.self;
  activities = with_item c.args.self.now.activities c.args.variable c.args.new_activity;
  increment = c.args.self.now.increment;
}

changed : (c : After-set-then-queued) → IsChanged c.args.self.now c.args.variable c.args.new_activity (c.args.new_activity == 0) c.args.new_activity (after c)
changed c = let old = c.args.self.now in
    record {
      within = c.requires.within;
      fitting = inr refl;
      none = λ h. eqb-true c.args.new_activity 0 h;
      count = length-set old.activities.items c.args.variable c.args.new_activity;
      weighed = c.set.ensures;
      written = c.set-then-queued.ensures;
      activities = λ o. written_at old.activities.items c.args.variable c.args.new_activity o c.requires.within;
    }

pub returns-then-queued-clause-queue : goal.returns-then-queued-clause-queue
returns-then-queued-clause-queue c = let s = (goal.at.returns-then-queued-clause-queue c).After-set-then-queued in
    queue_changed c.args.self.now (after s) c.args.variable c.args.new_activity (c.args.new_activity == 0) c.args.new_activity c.requires.queue
    (changed s)

pub returns-then-queued-clause-kept : goal.returns-then-queued-clause-kept
returns-then-queued-clause-kept c =
    let s = (goal.at.returns-then-queued-clause-kept c).After-set-then-queued in
    let old = c.args.self.now in
    record {
      count = (changed s).count;
      same = λ o. queued_changed old (after s) c.args.variable c.args.new_activity (c.args.new_activity == 0) c.args.new_activity
          c.requires.queue (changed s) o ∙ (ap (λ (b : Bool). cond (o == c.args.variable) b (is_queued old o))
          (counted c.args.new_activity ∙ (sym c.if-queued.true ∙ c.is_queued-queued.ensures))
          ∙ sym (unchanged (is_queued old) c.args.variable o));
    }

pub returns-else-queued-clause-queue : goal.returns-else-queued-clause-queue
returns-else-queued-clause-queue c =
    let old = c.args.self.now in
    let none = none_left old c.args.variable (sym c.is_queued-queued.ensures ∙ c.if-queued.false) in
    queue_changed old (record old { activities = with_item old.activities c.args.variable c.args.new_activity }) c.args.variable
    (weight old.active c.args.variable) (contains old.inactive c.args.variable) c.args.new_activity c.requires.queue (record {
      within = c.requires.within;
      fitting = inl none.0;
      none = λ h. absurd (true≢false (sym h ∙ none.1));
      count = length-set old.activities.items c.args.variable c.args.new_activity;
      weighed = weighs_still old.active c.args.variable c.requires.queue.tournament;
      written = member_still old.inactive c.args.variable c.requires.queue.set;
      activities = λ o. written_at old.activities.items c.args.variable c.args.new_activity o c.requires.within;
    })
