use Rattle.std.proofs.Common.{◌≡◌, ◌-◌, ◌||◌, eqb, ℕ, ap, ◌∙◌, arith}
use Rattle.clause_learning.specs.Queues.{is_queued}
use Rattle.clause_learning.proofs.choices.Decisions.give_back.Goals as goal

pub returns-clause-queued : goal.returns-clause-queued
returns-clause-queued c = λ other.
    let same : c.variable.result - 1 ≡ c.args.literal.index = omega (arith, c.variable.ensures.value) in
    c.push.ensures.pushed other ∙ ap (λ (n : ℕ). is_queued c.args.self.now.queue other || eqb other n) same
