use Rattle.std.proofs.Common.{◌≡◌, ◌∙◌, arith, ℕ, List, length, None, refl, ap, rules}
use Rattle.sat_trail.specs.Entries.{place_of}
use Rattle.clause_learning.proofs.Deciding.{decisions_set, decisions_popped, next_unset, none_unset}
use Rattle.clause_learning.proofs.Counts.{count_less}
use Rattle.clause_learning.proofs.Queueing.{queued_below}
use Rattle.clause_learning.specs.Queues.{is_queued}
use Rattle.clause_learning.proofs.choices.Decisions.next_variable.Goals as goal

pub returns-then-is_none-clause-decisions : goal.returns-then-is_none-clause-decisions
returns-then-is_none-clause-decisions c = λ e here.
    let t = c.args.trail.now in
    let none : place_of t.entries c.in-Some.index ≡ None = search rules in
    decisions_set t.variables t.entries c.loop-index.self c.pop.new.self c.in-Some.index c.loop-index.invariant.decisions c.pop.ensures.queue
    (ap (λ (xs : List ℕ). length xs) c.pop.ensures.activities) c.in-Some.ensures.others none
    (record { queue = c.pop.new.self; phases = c.loop-index.self.phases; repeated = c.loop-index.self.repeated }) refl refl e here

pub returns-then-is_none-clause-found : goal.returns-then-is_none-clause-found
returns-then-is_none-clause-found c =
    let t = c.args.trail.now in
    let none : place_of t.entries c.in-Some.index ≡ None = search rules in
    next_unset t.variables t.entries c.args.self.now c.loop-index.self c.in-Some.index c.loop-index.invariant.decisions
    c.loop-index.invariant.activities c.in-Some.ensures.next none

pub overflow_add-index : goal.overflow_add-index
overflow_add-index c = let d = c.loop-index.invariant.decisions in
    let below = queued_below c.loop-index.self.queue d.queue.queue c.in-Some.index c.in-Some.ensures.next.queued in
    omega (arith, below, d.one_activity_each, d.queue.queue.few)

pub set_place-requires-clause-over : goal.set_place-requires-clause-over
set_place-requires-clause-over c = let d = c.loop-index.invariant.decisions in
    omega (arith, queued_below c.loop-index.self.queue d.queue.queue c.in-Some.index c.in-Some.ensures.next.queued, d.one_activity_each)

pub loop-index-smaller : goal.loop-index-smaller
loop-index-smaller c =
    let d = c.loop-index.invariant.decisions in
    let q = c.loop-index.self.queue in
    let below = queued_below q d.queue.queue c.in-Some.index c.in-Some.ensures.next.queued in
    count_less (is_queued q) (is_queued c.pop.new.self) c.in-Some.index c.args.trail.now.variables (omega (arith, below, d.one_activity_each))
    c.in-Some.ensures.next.queued c.in-Some.ensures.others

pub loop-index-preserved : goal.loop-index-preserved
loop-index-preserved c =
    let t = c.args.trail.now in
    let i = c.loop-index.invariant in
    let set : place_of t.entries c.in-Some.index ≡ None → ⊥ = search rules in
    record {
      decisions = decisions_popped t.variables t.entries c.loop-index.self c.pop.new.self c.in-Some.index i.decisions c.pop.ensures.queue
          (ap (λ (xs : List ℕ). length xs) c.pop.ensures.activities) c.in-Some.ensures.others set _ refl refl;
      activities = c.pop.ensures.activities ∙ i.activities;
      phases = i.phases;
    }

pub returns-clause-found : goal.returns-clause-found
returns-clause-found c = none_unset c.args.trail.now.variables c.args.trail.now.entries c.loop-index.self c.loop-index.invariant.decisions
    c.in_default.ensures.next
