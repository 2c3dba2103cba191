use Rattle.std.proofs.Common.{◌==◌, ℕ, List, length, ap, ◌∙◌, arith, inl, inr}
use Rattle.std.proofs.lemmas.Bool.{cases_eq, eq-eqb, or_left, or_right}
use Rattle.clause_learning.specs.Queues.{is_queued}
use Rattle.clause_learning.proofs.queue.VariableQueue.new.Goals as goal

pub loop-variable-preserved : goal.loop-variable-preserved
loop-variable-preserved c =
    let before = c.loop-variable.queue in
    let v = c.loop-variable.variable in
    let i = c.loop-variable.invariant in
    record {
      queue = c.push.ensures.queue;
      count = ap (λ (xs : List ℕ). length xs) c.push.ensures.activities ∙ i.count;
      all = λ o below. c.push.ensures.pushed o ∙ elim (cases_eq o v) [
        | inl is ↦ or_right (is_queued before o) (o == v) (eq-eqb o v is)
        | inr apart ↦ or_left (is_queued before o) (o == v) (i.all o (omega (arith, below, apart)))
      ];
    }
