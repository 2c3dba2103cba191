use Rattle.std.proofs.Common.{◌≡◌, ◌==◌, ◌+◌, ◌*◌, ◌/◌, ◌^◌, ◌<◌, ◌≤◌, ℕ, length, cond, refl, sym, ap, ◌∙◌, arith}
use Rattle.std.proofs.lemmas.Option.{get_or_from_slice_get, slice_get_read}
use Rattle.clause_learning.specs.Queues.{activity_of, limit}
use Rattle.clause_learning.proofs.Queueing.{made_active, beside_over, beside_under, bounded_with}
use Rattle.clause_learning.proofs.queue.VariableQueue.bump.Goals as goal
use Rattle.clause_learning.proofs.queue.VariableQueue.bump.Goals.{After-set_activity}

-- the new activity
sum_is : (c : After-set_activity) → c.index.result.now + c.args.self.now.increment ≡ activity_of c.args.self.now c.args.variable + c.args.self.now.increment
sum_is c =
    let items = c.args.self.now.activities.items in
    let read = get_or_from_slice_get items c.args.variable c.index.result.now 0
    (slice_get_read items (length items) c.args.variable c.index.result.now refl c.requires.within c.index.ensures) in
    omega (arith, read)

activities : (c : After-set_activity) → (o : ℕ) → activity_of c.set_activity.new.self o
    ≡ cond (o == c.args.variable) (activity_of c.args.self.now c.args.variable + c.args.self.now.increment) (activity_of c.args.self.now o)
activities c o = c.set_activity.ensures.activities o
    ∙ ap (λ (a : ℕ). cond (o == c.args.variable) a (activity_of c.args.self.now o)) (sum_is c)

pub scale-requires-clause-bounded : goal.scale-requires-clause-bounded
scale-requires-clause-bounded c =
    let old = c.args.self.now in
    let b = c.requires.queue.bounded in
    bounded_with old c.set_activity.new.self c.args.variable (activity_of old c.args.variable + old.increment) (2 * limit)
    (record { activities = λ o. omega (arith, b.activities o); increment = omega (arith, b.increment) })
    (omega (arith, b.activities c.args.variable, b.increment)) (activities (goal.at.scale-requires-clause-bounded c).After-set_activity)
    c.set_activity.ensures.increment

pub returns-then-activity-gt-LIMIT-clause-active : goal.returns-then-activity-gt-LIMIT-clause-active
returns-then-activity-gt-LIMIT-clause-active c =
    let old = c.args.self.now in
    let a = activity_of old c.args.variable + old.increment in
    let s = (goal.at.returns-then-activity-gt-LIMIT-clause-active c).After-set_activity in
    let over : limit < a = omega (arith, sum_is s, c.if-activity-gt-LIMIT.true) in
    made_active old c.set_activity.new.self c.scale.new.self c.args.variable a
    (c.scale.ensures.kept.count ∙ c.set_activity.ensures.kept.count) (λ o. c.scale.ensures.kept.same o ∙ c.set_activity.ensures.kept.same o) (activities s)
    (λ o. c.scale.ensures.activities o ∙ sym (beside_over a (activity_of c.set_activity.new.self o) over))
    (c.scale.ensures.increment ∙ (ap (λ (n : ℕ). n / 2 ^ 40) c.set_activity.ensures.increment ∙ sym (beside_over a old.increment over)))

pub returns-else-activity-gt-LIMIT-clause-active : goal.returns-else-activity-gt-LIMIT-clause-active
returns-else-activity-gt-LIMIT-clause-active c =
    let old = c.args.self.now in
    let a = activity_of old c.args.variable + old.increment in
    let s = (goal.at.returns-else-activity-gt-LIMIT-clause-active c).After-set_activity in
    let under : a ≤ limit = omega (arith, sum_is s, c.if-activity-gt-LIMIT.false) in
    made_active old c.set_activity.new.self c.set_activity.new.self c.args.variable a c.set_activity.ensures.kept.count
    c.set_activity.ensures.kept.same (activities s) (λ o. sym (beside_under a (activity_of c.set_activity.new.self o) under))
    (c.set_activity.ensures.increment ∙ sym (beside_under a old.increment under))

pub returns-else-activity-gt-LIMIT-clause-queue : goal.returns-else-activity-gt-LIMIT-clause-queue
returns-else-activity-gt-LIMIT-clause-queue c =
    let old = c.args.self.now in
    let s = (goal.at.returns-else-activity-gt-LIMIT-clause-queue c).After-set_activity in
    record {
      queue = c.set_activity.ensures.queue;
      bounded = bounded_with old c.set_activity.new.self c.args.variable (activity_of old c.args.variable + old.increment) limit
          c.requires.queue.bounded (omega (arith, sum_is s, c.if-activity-gt-LIMIT.false)) (activities s) c.set_activity.ensures.increment;
    }
