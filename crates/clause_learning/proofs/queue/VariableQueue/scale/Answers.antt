use Rattle.std.proofs.Common.{◌≡◌, ◌<◌, ◌/◌, ◌^◌, ℕ, length, refl, sym, ap, ◌∙◌, arith, inl, inr}
use Rattle.std.proofs.lemmas.Bool.{cases_eq, cases_lt}
use Rattle.std.proofs.lemmas.List.{get_or_past}
use Rattle.std.proofs.lemmas.Option.{get_or_from_slice_get, slice_get_read}
use Rattle.clause_learning.specs.Queues.{activity_of, scaled}
use Rattle.clause_learning.proofs.Queueing.{at_one, at_other}
use Rattle.clause_learning.proofs.queue.VariableQueue.scale.Goals as goal
use Rattle.clause_learning.proofs.queue.VariableQueue.scale.Goals.{After-loop-variable}

pub loop-variable-preserved : goal.loop-variable-preserved
loop-variable-preserved c =
    let old = c.loop-variable.self in
    let v = c.loop-variable.variable in
    let i = c.loop-variable.invariant in
    let s = c.set_activity.ensures in
    let items = old.activities.items in
    let within : v < length items = omega (
      arith,
      c.loop-variable-test.true,
      c.loop-variable.auto.variable-end,
      c.len-variable-end.ensures,
      c.args.self.now.activities.ok.0,
      i.count,
    ) in
    let read = get_or_from_slice_get items v c.index.result.now 0 (slice_get_read items (length items) v c.index.result.now refl within c.index.ensures) in
    record {
      queue = s.queue;
      count = s.kept.count ∙ i.count;
      same = λ o. s.kept.same o ∙ i.same o;
      done = λ o below. elim (cases_eq o v) [
        | inl is ↦ s.activities o ∙ (at_one o v (c.index.result.now / 2 ^ 40) (activity_of old o) is
            ∙ ap (λ (n : ℕ). n / 2 ^ 40) (sym read ∙ (i.left v (omega arith) ∙ ap (activity_of c.args.self.now) (sym is))))
        | inr apart ↦ s.activities o ∙ (at_other o v (c.index.result.now / 2 ^ 40) (activity_of old o) apart ∙ i.done o (omega (arith, below, apart)))
      ];
      left = λ o over. s.activities o ∙ (at_other o v (c.index.result.now / 2 ^ 40) (activity_of old o) (λ is. omega (arith, is, over))
          ∙ i.left o (omega (arith, over)));
      increment = s.increment ∙ i.increment;
    }

activities : (c : After-loop-variable) → (o : ℕ) → activity_of c.loop-variable.self o ≡ scaled (activity_of c.args.self.now o)
activities c o = let i = c.loop-variable.invariant in
    elim (cases_lt o c.loop-variable.variable) [
      | inl below ↦ i.done o below
      | inr over ↦ omega (
        arith,
        i.left o over,
        get_or_past c.args.self.now.activities.items o 0
            (omega (arith, over, c.loop-variable-test.false, c.loop-variable.auto.variable-end, c.len-variable-end.ensures, c.args.self.now.activities.ok.0)),
      )
    ]

pub returns-clause-activities : goal.returns-clause-activities
returns-clause-activities c = activities (goal.at.returns-clause-activities c).After-loop-variable

pub returns-clause-queue : goal.returns-clause-queue
returns-clause-queue c =
    let i = c.loop-variable.invariant in
    record {
      queue = i.queue;
      bounded = record {
        activities = λ o. omega (arith, activities (goal.at.returns-clause-queue c).After-loop-variable o, c.requires.bounded.activities o);
        increment = omega (arith, i.increment, c.requires.bounded.increment);
      };
    }
